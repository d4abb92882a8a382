-- The offset of each part in a concatenation of parts of equal length, and the end of a NUL-terminated text.
use Rattle.std.proofs.Common.{◌≡◌, ℕ, zero, suc, ◌+◌, ◌*◌, ◌<◌, ◌==◌, ◌&&◌, Bool, true, false, not, cond, List, [], ◌∷◌, ◌++◌, length, flat_map, drop, take, get_or, refl, sym, ap, ◌∙◌, append_assoc, arith, true≢false, length-append}
use Rattle.std.proofs.Math.Nat.{add_comm, mul-suc, mul-zero}
use Rattle.std.proofs.Math.Seq.{drop-append-add}
use Rattle.std.specs.List.{before_first, list_all, position_or_len}
use Rattle.lib_types.specs.Bytes.{is_byte}

pub following : (front ys : List ℕ) (n k : ℕ) → length front ≡ n → drop (n + k) (front ++ ys) ≡ drop k ys
following front ys n k h = rw (← h) (drop-append-add front ys k)

-- ---- parts of one size

module _ {X : Type 0} (f : X → List ℕ) (k : ℕ) (size : (x : X) → length (f x) ≡ k) where
  pub part_there : (xs : List X) (rest : List ℕ) (i : ℕ) (d : X) → i < length xs → drop (k * i) (flat_map f xs ++ rest) ≡ f (get_or xs i d) ++ (flat_map f (drop (suc i) xs) ++ rest)
  part_there [] rest i d h = absurd (omega arith)
  part_there (x ∷ xs) rest zero d h = rw mul-zero (append_assoc (f x) (flat_map f xs) rest)
  part_there (x ∷ xs) rest (suc i) d h =
      let first : k * suc i ≡ k + k * i = mul-suc k i ∙ add_comm (k * i) k in
      rw (first, append_assoc (f x) (flat_map f xs) rest) (following (f x) (flat_map f xs ++ rest) k (k * i) (size x) ∙ part_there xs rest i d (omega arith))

  pub length_parts : (xs : List X) → length (flat_map f xs) ≡ k * length xs
  length_parts [] = sym (mul-zero k)
  length_parts (x ∷ xs) =
      length-append (f x) (flat_map f xs) ∙ ap (λ n. n + length (flat_map f xs)) (size x) ∙ ap (λ n. k + n) (length_parts xs) ∙ add_comm k (k * length xs) ∙ sym (mul-suc k (length xs))

-- ---- texts

abbrev HasNoNul : List ℕ → Type 0
HasNoNul t = list_all (λ b. not (b == 0)) t ≡ true

-- the bytes before the first NUL of a NUL-terminated text are the text
pub before_nul : (t rest : List ℕ) → HasNoNul t → before_first (is_byte 0) (t ++ 0 ∷ rest) ≡ t
before_nul [] rest h = refl
before_nul (x ∷ t) rest h = by (x == 0) h (before_nul t rest)
  where
    by : (b : Bool) → (not b && list_all (λ b. not (b == 0)) t) ≡ true → (HasNoNul t → before_first (is_byte 0) (t ++ 0 ∷ rest) ≡ t)
        → take (cond (not b) (1 + position_or_len (is_byte 0) (t ++ 0 ∷ rest)) 0) (x ∷ (t ++ 0 ∷ rest)) ≡ x ∷ t
    by true e more = absurd (true≢false (sym e))
    by false e more =
        let one : 1 + position_or_len (is_byte 0) (t ++ 0 ∷ rest) ≡ suc (position_or_len (is_byte 0) (t ++ 0 ∷ rest)) = omega arith in
        rw one (ap (λ xs. x ∷ xs) (more e))
