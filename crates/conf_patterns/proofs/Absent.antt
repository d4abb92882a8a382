-- Lists in which no element passes a test.
use Rattle.std.proofs.Common.{◌≡◌, ◌≤◌, ℕ, zero, suc, Bool, true, false, ◌||◌, ltb, List, [], ◌∷◌, length, drop, None, refl, arith}
use Rattle.std.specs.List.{list_any, position, position_or_len}
use Rattle.std.proofs.lemmas.Bool.{ltb-true}
use Rattle.lib_types.proofs.SortedPairs.{by_test}

module _ {X : Type 0} (p : X → Bool) where
  or_false : (a b : Bool) → (a || b) ≡ false → (a ≡ false) × (b ≡ false)
  or_false true b e = cc
  or_false false b e = (refl, e)

  whole : (xs : List X) → list_any p xs ≡ false → position_or_len p xs ≡ length xs
  whole [] e = refl
  whole (x ∷ xs) e =
      let parts = or_false (p x) (list_any p xs) e in
      let rest = whole xs parts.1 in
      rw (parts.0) (omega (arith, rest))

  pub no_position : (xs : List X) → list_any p xs ≡ false → position p xs ≡ None
  no_position xs e =
      let all = whole xs e in
      by_test (ltb (position_or_len p xs) (length xs)) (λ t. let less = ltb-true _ _ t in absurd (omega (arith, less, all))) (λ f. rw f refl)

  pub none_further : (xs : List X) (j k : ℕ) → j ≤ k → list_any p (drop j xs) ≡ false → list_any p (drop k xs) ≡ false
  none_further [] j zero le e = refl
  none_further [] j (suc k) le e = refl
  none_further (x ∷ xs) zero zero le e = e
  none_further (x ∷ xs) zero (suc k) le e = none_further xs zero k (omega arith) (or_false (p x) (list_any p xs) e).1
  none_further (x ∷ xs) (suc j) zero le e = absurd (omega arith)
  none_further (x ∷ xs) (suc j) (suc k) le e = none_further xs j k (omega arith) e
