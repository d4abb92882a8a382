-- A list has exactly one sorted permutation, if items that compare equal are equal.
use Rattle.std.proofs.Common.{◌≡◌, ℕ, ◌+◌, ◌≤◌, Bool, true, false, cond, List, [], ◌∷◌, get_or, suc, refl, sym, ap, subst, ◌∙◌, arith}
use Rattle.std.proofs.lemmas.List.Elements.{All-filter, All-from_get_or, All-head, All-tail}
use Rattle.std.proofs.lemmas.List.Kept.{IsSortedBy-filter}
use Rattle.std.proofs.lemmas.List.Sorted.{All-permutation, IsPermutation-sym, IsPermutation-trans, ranks_by, sorted_far, sum_by-IsPermutation}
use Rattle.std.proofs.lemmas.List.Sums.{sum_by-cons, sum_by-le}
use Rattle.std.specs.Cmp.{IsStrictWeakOrder, IsTotalOrder}
use Rattle.std.specs.List.{All, filter, sum_by}
use Rattle.std.specs.List.Sorted.{IsPermutation, IsSorted, IsSortedBy}
use Rattle.std.specs.Ordering.{is_lt, ordering_reverse}
use Rattle.std.specs.declared.cmp.Ordering.{Ordering}
use Rattle.std.specs.declared.cmp.Ordering.TheVariants.{Less, Equal, Greater}

-- Two lists have the same items if the sums over both lists are equal for each function.
abbrev HaveSameSums : {X : Type 0} → List X → List X → Type 0
HaveSameSums {X} xs ys = (f : X → ℕ) → sum_by f ys ≡ sum_by f xs

module _ {X : Type 0} (lt : X → X → Bool) (o : IsStrictWeakOrder lt) where
  -- the first item of a sorted list isn't greater than any item of a permutation of the list
  least_first : (x y : X) (xs ys : List X) → IsSortedBy lt (x ∷ xs) → HaveSameSums (x ∷ xs) (y ∷ ys) → lt y x ≡ false
  least_first x y xs ys sorted same = by (lt y x) refl
    where
      counts_below : X → ℕ
      counts_below z = cond (lt z x) 1 0

      none : All (λ z. counts_below z ≤ 0) (x ∷ xs)
      none = All-from_get_or (λ z. counts_below z ≤ 0) (x ∷ xs) x
          (λ i within. rw (sorted_far lt o (x ∷ xs) sorted 0 i x (omega arith) within) (omega arith))

      by : (b : Bool) → lt y x ≡ b → b ≡ false
      by false e = refl
      by true e =
          let one : counts_below y ≡ 1 = rw e refl in
          let few = sum_by-le counts_below 0 (x ∷ xs) none in
          absurd (omega (arith, one, few, same counts_below, sum_by-cons counts_below y ys))

  pub sorted_rest : (x : X) (xs : List X) → IsSortedBy lt (x ∷ xs) → IsSortedBy lt xs
  sorted_rest x xs sorted k d low high =
      let e : suc k + 1 ≡ suc (k + 1) = omega arith in
      subst (λ n. lt (get_or (x ∷ xs) n d) (get_or xs k d) ≡ false) e (sorted (suc k) d (omega arith) (omega arith))

  module _ (P : X → Type 0) (exact : (x y : X) → P x → P y → lt x y ≡ false → lt y x ≡ false → x ≡ y) where
    -- sorted lists with the same items are equal, if items that compare equal are equal
    sorted_same : (xs ys : List X) → HaveSameSums xs ys → All P xs → All P ys → IsSortedBy lt xs → IsSortedBy lt ys → xs ≡ ys
    sorted_same [] [] same ps qs up upward = refl
    sorted_same [] (y ∷ ys) same ps qs up upward = absurd (omega (arith, same (λ _. 1), sum_by-cons (λ _. 1) y ys))
    sorted_same (x ∷ xs) [] same ps qs up upward = absurd (omega (arith, same (λ _. 1), sum_by-cons (λ _. 1) x xs))
    sorted_same (x ∷ xs) (y ∷ ys) same ps qs up upward =
        let first : x ≡ y = exact x y (All-head P x xs ps) (All-head P y ys qs)
        (least_first y x ys xs upward (λ f. sym (same f))) (least_first x y xs ys up same) in
        let rest = sorted_same xs ys
        (λ f. omega (arith, same f, sum_by-cons f x xs, sum_by-cons f y ys, ap f first))
        (All-tail P x xs ps) (All-tail P y ys qs) (sorted_rest x xs up) (sorted_rest y ys upward) in
        cc

tie : (r : Ordering) → is_lt r ≡ false → is_lt (ordering_reverse r) ≡ false → r ≡ Equal
tie Less a b = cc
tie Equal a b = refl
tie Greater a b = cc

-- two sorted permutations of a list are equal
pub one_sorted : {X : Type 0} {cmp : X → X → Ordering} → IsTotalOrder cmp → (P : X → Type 0) → ((x y : X) → P x → P y → cmp x y ≡ Equal → x ≡ y)
    → (items a b : List X) → All P items → IsPermutation items a → IsSorted cmp a → IsPermutation items b → IsSorted cmp b → a ≡ b
one_sorted {cmp = cmp} o P exact items a b all p up q upward =
    sorted_same (λ x y. is_lt (cmp x y)) (ranks_by o (λ x. x)) P
    (λ x y h k below above. exact x y h k (tie (cmp x y) below (rw (← o.antisymm y x) above)))
    a b (λ f. sum_by-IsPermutation f a b (IsPermutation-trans _ _ _ (IsPermutation-sym _ _ p) q))
    (All-permutation P items a p all) (All-permutation P items b q all) up upward

-- ---- filtered items

module _ {X : Type 0} (p : X → Bool) where
  kept_sum : (f : X → ℕ) (xs : List X) → sum_by f (filter p xs) ≡ sum_by (λ x. cond (p x) (f x) 0) xs
  kept_sum f [] = refl
  kept_sum f (x ∷ xs) =
      let g : X → ℕ = λ x. cond (p x) (f x) 0 in
      let more : sum_by f (cond (p x) (x ∷ filter p xs) (filter p xs)) ≡ cond (p x) (f x) 0 + sum_by g xs =
      elim (p x) as (λ b. sum_by f (cond b (x ∷ filter p xs) (filter p xs)) ≡ cond b (f x) 0 + sum_by g xs) [
        | true ↦ sum_by-cons f x (filter p xs) ∙ ap (λ n. f x + n) (kept_sum f xs)
        | false ↦ kept_sum f xs ∙ (omega arith)
      ] in
      more ∙ sym (sum_by-cons g x xs)

-- If the items that pass a test are already sorted, sorting the whole list keeps their order.
pub same_kept : {X : Type 0} {cmp : X → X → Ordering} → IsTotalOrder cmp → (P : X → Type 0) → ((x y : X) → P x → P y → cmp x y ≡ Equal → x ≡ y) → (p : X → Bool)
    → (items a : List X) → All P items → IsPermutation items a → IsSorted cmp a → IsSorted cmp (filter p items) → filter p a ≡ filter p items
same_kept {X = X} {cmp = cmp} o P exact p items a all moved up upward =
    let lt : X → X → Bool = λ x y. is_lt (cmp x y) in
    sorted_same lt (ranks_by o (λ x. x)) P
    (λ x y h k below above. exact x y h k (tie (cmp x y) below (rw (← o.antisymm y x) above)))
    (filter p a) (filter p items)
    (λ f. kept_sum p f items ∙ sym (sum_by-IsPermutation (λ x. cond (p x) (f x) 0) items a moved) ∙ sym (kept_sum p f a))
    (All-filter p P a (All-permutation P items a moved all)) (All-filter p P items all)
    (IsSortedBy-filter lt (ranks_by o (λ x. x)) p a up) upward
