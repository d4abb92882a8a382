-- The index that a search for bytes finds.
use Rattle.std.proofs.Common.{◌≡◌, ◌||◌, ℕ, suc, ◌+◌, ◌<◌, Bool, true, false, cond, not, nat_lt, List, [], ◌∷◌, length, Option, Some, None, is_some, refl, sym, ◌∙◌, arith}
use Rattle.std.proofs.lemmas.Bool.Decides.{nat_tests}
use Rattle.std.proofs.lemmas.List.Sums.{position_or_len_is}
use Rattle.std.specs.List.{list_any, position, prefix_len}
use Rattle.memchr.specs.Find.{IsFirstByte}

-- ---- whether there is one

passed : {X : Type 0} (p : X → Bool) → (xs : List X) → nat_lt (prefix_len (λ x. not (p x)) xs) (length xs) ≡ list_any p xs
passed p [] = refl
passed p (x ∷ xs) =
    elim (p x) as (λ b. nat_lt (cond (not b) (1 + prefix_len (λ x. not (p x)) xs) 0) (suc (length xs)) ≡ (b || list_any p xs)) [ true ↦ grind (arith, nat_tests) | false ↦ let ih = passed p xs in grind (arith, nat_tests) ]

is_some_cond : {A : Type 0} (b : Bool) (a : A) → is_some (cond b (Some a) None) ≡ b
is_some_cond true a = refl
is_some_cond false a = refl

pub is_some_position : {X : Type 0} (p : X → Bool) → (xs : List X) → is_some (position p xs) ≡ list_any p xs
is_some_position p xs = is_some_cond _ _ ∙ passed p xs

-- ---- the first one

false_unless : (b : Bool) → (b ≡ true → ⊥) → b ≡ false
false_unless true h = absurd (h refl)
false_unless false h = refl

position_at : (n i m : ℕ) → n ≡ i → i < m → cond (nat_lt n m) (Some n) None ≡ Some i
position_at n i m e h = let within : nat_lt i m ≡ true = grind (arith, nat_tests) in rw (e, within) refl

position_past : (n m : ℕ) → n ≡ m → cond (nat_lt n m) (Some n) None ≡ None
position_past n m e = let past : nat_lt m m ≡ false = grind (arith, nat_tests) in rw (e, past) refl

pub first_is : (test : ℕ → Bool) (xs : List ℕ) (r : Option ℕ) → IsFirstByte test xs r → r ≡ position test xs
first_is test xs None h =
    let at = position_or_len_is test xs (length xs) 0 (omega arith) (λ k less. false_unless _ (h k (omega arith) less)) (λ less. absurd (omega (arith, less))) in
    sym (position_past _ (length xs) at)
first_is test xs (Some i) h =
    let high = h.0.high in
    let at = position_or_len_is test xs i 0 (omega (arith, high)) (λ k less. false_unless _ (h.0.before k (omega arith) less)) (λ less. h.1) in
    sym (position_at _ i (length xs) at high)
