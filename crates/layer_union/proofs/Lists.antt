-- Filters of lists.
use Rattle.std.proofs.Common.{◌≡◌, ℕ, suc, ◌<◌, ◌≤◌, Bool, true, false, cond, ◌&&◌, ◌||◌, not, List, [], ◌∷◌, length, get_or, map, filter, refl, sym, ap, ◌∙◌, arith}
use Rattle.std.proofs.lemmas.Bool.{or_from, or_parts}
use Rattle.std.specs.List.{dedup_from, list_any}
use Rattle.lib_types.proofs.Bools.{and_false, and_true}
use Rattle.lib_types.proofs.SortedPairs.{by_test}

module _ {X : Type 0} where
  -- two tests that answer alike at each element
  pub alike : (p q : X → Bool) (xs : List X) → ((k : ℕ) (d : X) → k < length xs → p (get_or xs k d) ≡ q (get_or xs k d)) → filter p xs ≡ filter q xs
  alike p q [] h = refl
  alike p q (x ∷ xs) h =
      ap (λ b. cond b (x ∷ filter p xs) (filter p xs)) (h 0 x (omega arith))
      ∙ ap (λ r. cond (q x) (x ∷ r) r) (alike p q xs (λ k d l. h (suc k) d (omega arith)))

  pub always : (p q : X → Bool) → ((x : X) → p x ≡ q x) → (xs : List X) → filter p xs ≡ filter q xs
  always p q h [] = refl
  always p q h (x ∷ xs) = ap (λ b. cond b (x ∷ filter p xs) (filter p xs)) (h x) ∙ ap (λ r. cond (q x) (x ∷ r) r) (always p q h xs)

  pub all_kept : (p : X → Bool) (xs : List X) → ((k : ℕ) (d : X) → k < length xs → p (get_or xs k d) ≡ true) → filter p xs ≡ xs
  all_kept p [] h = refl
  all_kept p (x ∷ xs) h =
      ap (λ b. cond b (x ∷ filter p xs) (filter p xs)) (h 0 x (omega arith))
      ∙ ap (λ r. x ∷ r) (all_kept p xs (λ k d l. h (suc k) d (omega arith)))

  pub keeps_all : (p : X → Bool) → ((x : X) → p x ≡ true) → (xs : List X) → filter p xs ≡ xs
  keeps_all p h xs = all_kept p xs (λ k d l. h (get_or xs k d))

  -- a filter of a filter
  pub twice : (p q : X → Bool) (xs : List X) → filter p (filter q xs) ≡ filter (λ x. p x && q x) xs
  twice p q [] = refl
  twice p q (x ∷ xs) =
      let rest = filter (λ x. p x && q x) xs in
      by_test (q x)
      (λ e.
      ap (λ b. filter p (cond b (x ∷ filter q xs) (filter q xs))) e
      ∙ ap (λ r. cond (p x) (x ∷ r) r) (twice p q xs)
      ∙ sym (ap (λ b. cond (p x && b) (x ∷ rest) rest) e ∙ ap (λ b. cond b (x ∷ rest) rest) (and_true (p x))))
      (λ e.
      ap (λ b. filter p (cond b (x ∷ filter q xs) (filter q xs))) e
      ∙ twice p q xs
      ∙ sym (ap (λ b. cond (p x && b) (x ∷ rest) rest) e ∙ ap (λ b. cond b (x ∷ rest) rest) (and_false (p x))))

  -- q drops nothing that p keeps
  pub within : (p q : X → Bool) → ((x : X) → p x ≡ true → q x ≡ true) → (xs : List X) → filter p (filter q xs) ≡ filter p xs
  within p q h xs = twice p q xs ∙ always (λ x. p x && q x) p
      (λ x. by_test (p x) (λ e. ap (λ b. b && q x) e ∙ h x e ∙ sym e) (λ e. ap (λ b. b && q x) e ∙ sym e)) xs

  pub none_dropped : (p : X → Bool) (xs : List X) → list_any p xs ≡ false → filter (λ x. not (p x)) xs ≡ xs
  none_dropped p [] h = refl
  none_dropped p (x ∷ xs) h =
      let parts = or_parts (p x) (list_any p xs) h in
      ap (λ b. cond (not b) (x ∷ filter (λ x. not (p x)) xs) (filter (λ x. not (p x)) xs)) parts.0
      ∙ ap (λ r. x ∷ r) (none_dropped p xs parts.1)

  pub few : (p : X → Bool) (xs : List X) → length (filter p xs) ≤ length xs
  few p [] = omega arith
  few p (x ∷ xs) = let h = few p xs in elim (p x) as (λ b. length (cond b (x ∷ filter p xs) (filter p xs)) ≤ length (x ∷ xs)) [ true ↦ omega arith | false ↦ omega arith ]

  -- no element that the filter keeps passes the test
  pub none_filtered : (p k : X → Bool) → ((x : X) → k x ≡ true → p x ≡ false) → (xs : List X) → list_any p (filter k xs) ≡ false
  none_filtered p k h [] = refl
  none_filtered p k h (x ∷ xs) = by_test (k x)
      (λ e. ap (λ b. list_any p (cond b (x ∷ filter k xs) (filter k xs))) e ∙ or_from (p x) (list_any p (filter k xs)) (h x e) (none_filtered p k h xs))
      (λ e. ap (λ b. list_any p (cond b (x ∷ filter k xs) (filter k xs))) e ∙ none_filtered p k h xs)

  pub any_or : (f g : X → Bool) (xs : List X) → list_any (λ x. f x || g x) xs ≡ (list_any f xs || list_any g xs)
  any_or f g [] = refl
  any_or f g (x ∷ xs) = ap (λ b. (f x || g x) || b) (any_or f g xs) ∙ regroup (f x) (g x) (list_any f xs) (list_any g xs)
    where
      regroup : (a b c d : Bool) → ((a || b) || (c || d)) ≡ ((a || c) || (b || d))
      regroup true b c d = refl
      regroup false true true d = refl
      regroup false true false d = refl
      regroup false false c d = refl

  pub any_alike : (f g : X → Bool) → ((x : X) → f x ≡ g x) → (xs : List X) → list_any f xs ≡ list_any g xs
  any_alike f g h [] = refl
  any_alike f g h (x ∷ xs) = ap (λ b. b || list_any f xs) (h x) ∙ ap (λ b. g x || b) (any_alike f g h xs)

  -- a list without repeats in a row begins with the first element
  pub dedup_starts : (E : X → X → Bool) (x : X) (xs : List X) → (rest : List X) × (dedup_from E x xs ≡ x ∷ rest)
  dedup_starts E x [] = ([], refl)
  dedup_starts E x (y ∷ ys) = by_test (E y x)
      (λ e. let more = dedup_starts E x ys in (more.0, ap (λ b. cond b (dedup_from E x ys) (x ∷ dedup_from E y ys)) e ∙ more.1))
      (λ e. (dedup_from E y ys, ap (λ b. cond b (dedup_from E x ys) (x ∷ dedup_from E y ys)) e))

  module _ {Y : Type 0} (f : X → Y) (p : X → Bool) where
    pub none_mapped : (xs : List X) → map f (filter p xs) ≡ [] → list_any p xs ≡ false
    none_mapped [] h = refl
    none_mapped (x ∷ xs) h = by_test (p x)
        (λ e. let z : f x ∷ map f (filter p xs) ≡ [] = sym (ap (λ b. map f (cond b (x ∷ filter p xs) (filter p xs))) e) ∙ h in absurd (cc))
        (λ e. or_from (p x) (list_any p xs) e (none_mapped xs (sym (ap (λ b. map f (cond b (x ∷ filter p xs) (filter p xs))) e) ∙ h)))
