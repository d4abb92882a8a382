-- The entries that are found always have a sorted list.
use Rattle.std.proofs.Common.{◌≡◌, ◌+◌, ◌<◌, Bool, true, false, cond, zero, suc, List, [], ◌∷◌, length, get_or, refl, ap, subst, ◌∙◌, arith}
use Rattle.std.proofs.lemmas.List.Sorted.{IsPermutation-cons, IsPermutation-middle, IsPermutation-refl, IsPermutation-trans, ranks_by}
use Rattle.std.specs.Cmp.{IsTotalOrder}
use Rattle.std.specs.List.Sorted.{IsPermutation, IsSorted}
use Rattle.std.specs.Ordering.{is_lt, ordering_reverse}
use Rattle.std.specs.declared.cmp.Ordering.{Ordering}
use Rattle.std.specs.declared.cmp.Ordering.TheVariants.{Less, Equal, Greater}
use Rattle.lib_types.proofs.SortedPairs.{by_test}
use Rattle.lib_types.specs.declared.entry.Entry.{Entry}
use Rattle.cache_entries.proofs.Sorts.{sorted_rest}
use Rattle.cache_entries.specs.Entries.{AreEntriesOf, entry_order, entry_order-total}

module _ {X : Type 0} (cmp : X → X → Ordering) (total : IsTotalOrder cmp) where
  abbrev pub below : X → X → Bool
  below x y = is_lt (cmp x y)

  not_both : (x y : X) → below x y ≡ true → below y x ≡ false
  not_both x y h = ap is_lt (total.antisymm y x) ∙ turned (cmp x y) h
    where
      turned : (r : Ordering) → is_lt r ≡ true → is_lt (ordering_reverse r) ≡ false
      turned Less e = refl
      turned Equal e = absurd (cc)
      turned Greater e = absurd (cc)

  -- ---- inserting an item before the first item that isn't smaller

  abbrev inserted : X → List X → List X
  inserted x [] = x ∷ []
  inserted x (y ∷ ys) = cond (below y x) (y ∷ inserted x ys) (x ∷ y ∷ ys)

  abbrev pub IsNoneBelow : X → List X → Type 0
  IsNoneBelow x ys = (d : X) → 0 < length ys → below (get_or ys 0 d) x ≡ false

  pub sorted_cons : (x : X) (ys : List X) → IsNoneBelow x ys → IsSorted cmp ys → IsSorted cmp (x ∷ ys)
  sorted_cons x ys first sorted zero d from within = first d (omega arith)
  sorted_cons x ys first sorted (suc k) d from within =
      let e : suc (k + 1) ≡ suc k + 1 = omega arith in
      subst (λ n. below (get_or (x ∷ ys) n d) (get_or ys k d) ≡ false) e (sorted k d (omega arith) (omega arith))

  first_inserted : (z x : X) (ys : List X) → below x z ≡ false → IsNoneBelow z ys → IsNoneBelow z (inserted x ys)
  first_inserted z x [] h none d some = h
  first_inserted z x (y ∷ ys) h none d some = by_test (below y x)
      (λ e. rw e (none d (omega arith)))
      (λ e. rw e h)

  sorted_inserted : (x : X) (ys : List X) → IsSorted cmp ys → IsSorted cmp (inserted x ys)
  sorted_inserted x [] sorted = sorted_cons x [] (λ d some. absurd (omega arith)) sorted
  sorted_inserted x (y ∷ ys) sorted = by_test (below y x)
      (λ e.
      let later = sorted_inserted x ys (sorted_rest below (ranks_by total (λ x. x)) y ys sorted) in
      rw e (sorted_cons y (inserted x ys) (first_inserted y x ys (not_both y x e) (λ d some. sorted 0 d (omega arith) (omega arith))) later))
      (λ e. rw e (sorted_cons x (y ∷ ys) (λ d some. e) sorted))

  same_items : (x : X) (ys : List X) → IsPermutation (x ∷ ys) (inserted x ys)
  same_items x [] = IsPermutation-refl (x ∷ [])
  same_items x (y ∷ ys) = by_test (below y x)
      (λ e. rw e (IsPermutation-trans _ _ _ (IsPermutation-middle (x ∷ []) y ys) (IsPermutation-cons y _ _ (same_items x ys))))
      (λ e. rw e (IsPermutation-refl (x ∷ y ∷ ys)))

  -- ---- inserting all items

  abbrev sorted_of : List X → List X
  sorted_of [] = []
  sorted_of (x ∷ xs) = inserted x (sorted_of xs)

  is_sorted : (xs : List X) → IsSorted cmp (sorted_of xs)
  is_sorted [] = λ k d from within. absurd (omega arith)
  is_sorted (x ∷ xs) = sorted_inserted x (sorted_of xs) (is_sorted xs)

  has_all : (xs : List X) → IsPermutation xs (sorted_of xs)
  has_all [] = IsPermutation-refl []
  has_all (x ∷ xs) = IsPermutation-trans _ _ _ (IsPermutation-cons x _ _ (has_all xs)) (same_items x (sorted_of xs))

pub one_list_is : (found : List Entry) → (entries : List Entry) × AreEntriesOf found entries
one_list_is found = (sorted_of entry_order entry_order-total found, record { all = has_all entry_order entry_order-total found; ordered = is_sorted entry_order entry_order-total found })
