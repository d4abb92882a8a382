-- Texts with their numbers, before and after they are sorted.
use Rattle.std.proofs.Common.{◌≡◌, ℕ, ◌<◌, false, List, [], ◌∷◌, ◌++◌, length, get_or, reverse, Some, ⊎_elim, refl, sym, ap, subst, ◌∙◌, arith}
use Rattle.std.specs.List.{All, Contains, slice_get}
use Rattle.std.specs.List.Sorted.{IsPermutation, IsSorted}
use Rattle.std.specs.Cmp.{IsStrictWeakOrder}
use Rattle.std.specs.Ordering.{is_gt, is_lt, ordering_reverse}
use Rattle.std.proofs.lemmas.Cmp.{nat_list_cmp_total}
use Rattle.std.proofs.lemmas.List.{length-append}
use Rattle.std.proofs.lemmas.List.Sorted.{All-permutation, Contains-permutation, IsPermutation-trans, ranks_by, sorted_far}
use Rattle.std.proofs.lemmas.Option.{get_or_from_slice_get, slice_get-get_or, slice_get_within}
use Rattle.lib_types.proofs.SortedPairs.{by_ordering}
use Rattle.string_pool.specs.Backward.{AreBackward, AreNumbered, HasItem, IsNumbered, back_cmp, falling, falling-total}
use Rattle.string_pool.specs.declared.backward.Numbered.{Numbered}
use Rattle.string_pool.proofs.Gets.{get_before, get_last, get_pushed, get_same, get_there}

pub none_numbered : AreNumbered [] []
none_numbered = record { many = refl; each = λ i item h. absurd (cc) }

pub numbered_more : (ts more : List (List ℕ)) (t : List ℕ) (items new : List Numbered) (item : Numbered) → AreNumbered ts items → more ≡ ts ++ t ∷ [] → new ≡ items ++ item ∷ []
    → item.number ≡ length items → item.text.now ≡ t → AreNumbered more new
numbered_more ts more t items new item h more_is new_is number_is text_is = rw (more_is, new_is) (record {
  many = omega (arith, h.many, length-append items (item ∷ []), length-append ts (t ∷ []));
  each = λ i x g. ⊎_elim
      (λ old. let known = h.each i x old in (known.0, get_before ts (t ∷ []) i x.text.now known.1))
      (λ last.
      let number : item.number ≡ i = number_is ∙ sym last.0 in
      let at : i ≡ length ts = last.0 ∙ h.many in
      let there : slice_get (ts ++ t ∷ []) i ≡ Some t = ap (slice_get (ts ++ t ∷ [])) at ∙ get_last ts t in
      subst (λ (y : Numbered). (y.number ≡ i) × (slice_get (ts ++ t ∷ []) i ≡ Some y.text.now)) (sym last.1) (number, there ∙ ap (λ (u : List ℕ). Some u) (sym text_is)))
      (get_pushed items item i x g);
})

-- ---- sorted

weak : IsStrictWeakOrder (λ a b. is_lt (falling a b))
weak = ranks_by falling-total (λ x. x)

turned : (a b : List ℕ) → is_lt (back_cmp a b) ≡ is_gt (back_cmp b a)
turned a b = by_ordering (back_cmp b a) (λ e. rw (one a b, e) refl) (λ e. rw (one a b, e) refl) (λ e. rw (one a b, e) refl)
  where
    one : (x y : List ℕ) → back_cmp x y ≡ ordering_reverse (back_cmp y x)
    one x y = nat_list_cmp_total.antisymm (reverse x) (reverse y)

module _ (ts : List (List ℕ)) (items sorted : List Numbered) (h : AreNumbered ts items) (moved : IsPermutation items sorted) where
  all_numbered : All (IsNumbered ts) items
  all_numbered k d within =
      let known = h.each k (get_or items k d) (slice_get-get_or items k d within) in
      record { is = ap (slice_get ts) known.0 ∙ known.1 }

  stays_numbered : (i : ℕ) (item : Numbered) → slice_get sorted i ≡ Some item → IsNumbered ts item
  stays_numbered i item there =
      subst (IsNumbered ts) (get_or_from_slice_get sorted i item item there) (All-permutation (IsNumbered ts) items sorted moved all_numbered i item (slice_get_within sorted i item there))

  has_item : (number : ℕ) (text : List ℕ) → slice_get ts number ≡ Some text → HasItem sorted number text
  has_item number text there =
      let within : number < length items = omega (arith, slice_get_within ts number text there, h.many) in
      let found = get_there items number within in
      let known = h.each number found.0 found.1 in
      let same : found.0.text.now ≡ text = get_same ts number found.0.text.now text known.1 there in
      let kept : Contains items found.0 = (number, within, get_or_from_slice_get items number found.0 found.0 found.1) in
      let moves = Contains-permutation items sorted found.0 moved kept in
      record {
        index = moves.0;
        item = found.0;
        there = slice_get-get_or sorted moves.0 found.0 moves.1 ∙ ap (λ (y : Numbered). Some y) moves.2;
        number_is = known.0;
        text_is = same;
      }

  pub sorted_backward : IsSorted falling sorted → AreBackward ts sorted
  sorted_backward up = record {
    numbered = stays_numbered;
    each = has_item;
    falls = λ i j x y there_x there_y order.
        let far = sorted_far (λ a b. is_lt (falling a b)) weak sorted up i j x order (slice_get_within sorted j y there_y) in
        let at_x : get_or sorted i x ≡ x = get_or_from_slice_get sorted i x x there_x in
        let at_y : get_or sorted j x ≡ y = get_or_from_slice_get sorted j y x there_y in
        let low : is_lt (back_cmp x.text.now y.text.now) ≡ false = (rw (at_x, at_y) at far) in
        sym (turned x.text.now y.text.now) ∙ low;
  }

-- the same if the items are ranked before
pub ranked_backward : (ts : List (List ℕ)) (items ranked sorted : List Numbered) → AreNumbered ts items → IsPermutation items ranked → IsPermutation ranked sorted
    → IsSorted falling sorted → AreBackward ts sorted
ranked_backward ts items ranked sorted h first then up = sorted_backward ts items sorted h (IsPermutation-trans items ranked sorted first then) up
