-- Lists after replacing or appending an item.
use Rattle.std.proofs.Common.{◌≡◌, ◌≢◌, ◌+◌, ◌-◌, ◌≤◌, ◌<◌, ℕ, zero, suc, Bool, true, false, arith, List, [], ◌∷◌, ◌++◌, length, map, take, drop, set, refl, ap, ◌∙◌, le_of_suc-le-suc, not-suc-le-zero, slice_get, Some, length-append, cond, count_by, zero-add}
use Rattle.std.specs.List.{suffix_len}
use Rattle.std.proofs.lemmas.List.{reverse-append, take-append-le}
use Rattle.std.proofs.lemmas.List.Sums.{sum_by-append}
use Rattle.std.proofs.Math.Seq.{take-length}

pub mapped_on : {X Y : Type 0} (y : Y) (xs : List X) (k : ℕ) → k < length xs → map (λ _. y) (take (k + 1) xs) ≡ map (λ _. y) (take k xs) ++ y ∷ []
mapped_on {X = X} y xs k within = ap (λ n. map (λ _. y) (take n xs)) (let e : k + 1 ≡ suc k = omega (arith) in e) ∙ by xs k within
  where
    by : (xs : List X) (k : ℕ) → k < length xs → map (λ _. y) (take (suc k) xs) ≡ map (λ _. y) (take k xs) ++ y ∷ []
    by [] k h = absurd (not-suc-le-zero h)
    by (x ∷ xs) zero h = refl
    by (x ∷ xs) (suc k) h = ap (λ l. y ∷ l) (by xs k (le_of_suc-le-suc h))

pub dropped : {X : Type 0} (xs : List X) (k : ℕ) → length xs ≤ k → ◌≡◌ {A = List X} (drop k xs) []
dropped [] zero h = refl
dropped [] (suc k) h = refl
dropped (x ∷ xs) zero h = absurd (not-suc-le-zero h)
dropped (x ∷ xs) (suc k) h = dropped xs k (le_of_suc-le-suc h)

module _ {X : Type 0} where
  pub set_at : (l : List X) (i : ℕ) (x : X) → i < length l → slice_get (set l i x) i ≡ Some x
  set_at [] i x h = absurd (not-suc-le-zero h)
  set_at (y ∷ l) zero x h = refl
  set_at (y ∷ l) (suc i) x h = set_at l i x (le_of_suc-le-suc h)

  pub set_next_to : (l : List X) (i j : ℕ) (x : X) → j ≢ i → slice_get (set l i x) j ≡ slice_get l j
  set_next_to [] i j x h = refl
  set_next_to (y ∷ l) zero zero x h = absurd (h refl)
  set_next_to (y ∷ l) zero (suc j) x h = refl
  set_next_to (y ∷ l) (suc i) zero x h = refl
  set_next_to (y ∷ l) (suc i) (suc j) x h = set_next_to l i j x (λ e. h (ap suc e))

  pub last_get : (l : List X) (x : X) → slice_get (l ++ x ∷ []) (length (l ++ x ∷ []) - 1) ≡ Some x
  last_get l x = ap (slice_get (l ++ x ∷ [])) (let is = length-append l (x ∷ []) in omega (arith, is)) ∙ seam l
    where
      seam : (l : List X) → slice_get (l ++ x ∷ []) (length l) ≡ Some x
      seam [] = refl
      seam (y ∷ l) = seam l

  pub count_more : (p : X → Bool) (l : List X) (x : X) → count_by p (l ++ x ∷ []) ≡ count_by p l + cond (p x) 1 0
  count_more p l x = sum_by-append (λ x. cond (p x) 1 0) l (x ∷ []) ∙ ap (λ n. count_by p l + n) (zero-add (cond (p x) 1 0))

  module _ (p : X → Bool) (l : List X) (x : X) where
    suffix_more : suffix_len p (l ++ x ∷ []) ≡ cond (p x) (1 + suffix_len p l) 0
    suffix_more = ap (λ r. Rattle.std.specs.List.prefix_len p r) (reverse-append l (x ∷ []))

    -- the items up to the last one that fails the test
    pub until_it : p x ≡ false → take (length (l ++ x ∷ []) - suffix_len p (l ++ x ∷ [])) (l ++ x ∷ []) ≡ l ++ x ∷ []
    until_it e =
        let none : suffix_len p (l ++ x ∷ []) ≡ 0 = suffix_more ∙ ap (λ b. cond b (1 + suffix_len p l) 0) e in
        ap (λ n. take n (l ++ x ∷ [])) (let all : length (l ++ x ∷ []) - suffix_len p (l ++ x ∷ []) ≡ length (l ++ x ∷ []) = omega (arith, none) in all) ∙ take-length (l ++ x ∷ [])

    pub until_before : p x ≡ true → take (length (l ++ x ∷ []) - suffix_len p (l ++ x ∷ [])) (l ++ x ∷ []) ≡ take (length l - suffix_len p l) l
    until_before e =
        let more : suffix_len p (l ++ x ∷ []) ≡ 1 + suffix_len p l = suffix_more ∙ ap (λ b. cond b (1 + suffix_len p l) 0) e in
        let longer = length-append l (x ∷ []) in
        let same : length (l ++ x ∷ []) - suffix_len p (l ++ x ∷ []) ≡ length l - suffix_len p l = omega (arith, more, longer) in
        ap (λ n. take n (l ++ x ∷ [])) same ∙ take-append-le (length l - suffix_len p l) l (x ∷ []) (omega arith)
