-- Bytes that are compared eight at a time, from the front.
use Rattle.std.proofs.Common.{◌≡◌, ℕ, suc, zero, ◌+◌, ◌<◌, ◌≤◌, Bool, true, false, nat_eq, List, [], ◌∷◌, length, take, slice_index, arith, refl, sym, ap, ◌∙◌}
use Rattle.std.proofs.Math.Seq.{take-length}
use Rattle.std.proofs.lemmas.Slice.Eq.{bytes_eq-Decides}
use Rattle.std.specs.Cmp.Lexicographic.{pointwise}
use Rattle.byteorder.specs.Endian.{little_from}
use Rattle.lib_types.proofs.EqualFront.{words_equal}

-- lists that aren't equal fail the pointwise test
others : (a b : List ℕ) → (a ≡ b → ⊥) → false ≡ pointwise nat_eq a b
others a b other = by (pointwise nat_eq a b) refl
  where
    by : (t : Bool) → pointwise nat_eq a b ≡ t → false ≡ t
    by true e = absurd (other ((bytes_eq-Decides a b).0 e))
    by false e = refl

pub other_word : (a b : List ℕ) (at : ℕ) → (little_from at 8 a ≡ little_from at 8 b → ⊥) → false ≡ pointwise nat_eq a b
other_word a b at other = others a b (λ e. other (ap (little_from at 8) e))

-- if the first i bytes are equal, so are the first j for j ≤ i
fewer_equal : (a b : List ℕ) (i j : ℕ) → j ≤ i → take i a ≡ take i b → take j a ≡ take j b
fewer_equal a b i zero h e = refl
fewer_equal a b zero (suc j) h e = absurd (omega arith)
fewer_equal [] [] (suc i) (suc j) h e = refl
fewer_equal [] (y ∷ b) (suc i) (suc j) h e = absurd (cc)
fewer_equal (x ∷ a) [] (suc i) (suc j) h e = absurd (cc)
fewer_equal (x ∷ a) (y ∷ b) (suc i) (suc j) h e =
    let first : x ≡ y = cc in
    let rest : take i a ≡ take i b = cc in
    let fewer = fewer_equal a b i j (omega arith) rest in
    (λ k. first k ∷ fewer k)

-- If the first i bytes are equal and the words at `at` ≤ i are equal, the first at + 8 bytes are equal.
pub word_equal : (a b : List ℕ) → ((k : ℕ) → slice_index a k < 256) → ((k : ℕ) → slice_index b k < 256) → (i at : ℕ) → at ≤ i → at + 8 ≤ length a → at + 8 ≤ length b
    → little_from at 8 a ≡ little_from at 8 b → take i a ≡ take i b → take (at + 8) a ≡ take (at + 8) b
word_equal a b p q i at le h k e same = words_equal a b p q 8 at h k e (fewer_equal a b i at le same)

pub all_equal : (a b : List ℕ) (i : ℕ) → i ≤ length a → length a ≤ i → length a ≡ length b → take i a ≡ take i b → true ≡ pointwise nat_eq a b
all_equal a b i h k e same =
    let all : i ≡ length a = omega arith in
    let whole : a ≡ b = sym (take-length a) ∙ ap (λ n. take n a) (sym all) ∙ same ∙ ap (λ n. take n b) (all ∙ e) ∙ take-length b in
    sym ((bytes_eq-Decides a b).1 whole)
