-- Sorted texts without repetitions: adding a text.
use Rattle.std.proofs.Common.{◌≡◌, ◌+◌, ℕ, Bool, true, false, not, ◌&&◌, ◌||◌, List, [], ◌∷◌, length, refl, ap, sym, ◌∙◌, Ordering, arith, subst}
use Rattle.std.proofs.lemmas.Cmp.{nat_list_cmp_total}
use Rattle.std.proofs.lemmas.List.Filters.{dedup_is}
use Rattle.std.proofs.lemmas.List.Kept.{IsStrictlySortedBy-dedup, IsStrictlySortedBy-filter}
use Rattle.std.proofs.lemmas.List.Sorted.{list_any-IsPermutation}
use Rattle.std.proofs.lemmas.Slice.Eq.{bytes_eq-Decides}
use Rattle.std.specs.Cmp.Lexicographic.{slice_cmp, texts_ties}
use Rattle.std.specs.List.{AllByRecursion, dedup, filter, fold, list_any}
use Rattle.std.specs.List.Retain.{DiffersFromLast, IsFiltered}
use Rattle.std.specs.List.Sorted.{IsPermutation, IsSorted, IsStrictlySortedBy}
use Rattle.std.specs.Ordering.{is_eq, match_ordering, nat_cmp}
use Rattle.std.specs.Str.{bytes_eq}
use Rattle.std.specs.declared.cmp.Ordering.TheVariants.{Less, Equal, Greater}
use Rattle.lib_types.proofs.SortedPairs.{by_ordering, by_test, flipped}
use Rattle.string_pool.proofs.Members.{AreSorted, dedup_in, is_in, kept_in, same_members, cmp}
use Rattle.string_pool.proofs.Ordered.{all_below}
use Rattle.string_pool.proofs.Either.{swapped, twice}
use Rattle.string_pool.specs.Order.{ascending, with_text}
use Rattle.lib_types.proofs.SameTexts.{itself}

text_put : (k x : List ℕ) (ks : List (List ℕ)) (r : Ordering) → cmp k x ≡ r → with_text (x ∷ ks) k ≡ match_ordering r (k ∷ x ∷ ks) (x ∷ ks) (x ∷ with_text ks k)
text_put k x ks r h = ap (λ o. match_ordering o (k ∷ x ∷ ks) (x ∷ ks) (x ∷ with_text ks k)) h

all_with : (P : List ℕ → Type 0) (ks : List (List ℕ)) (k : List ℕ) → AllByRecursion P ks → P k → AllByRecursion P (with_text ks k)
all_with P [] k a p = (p, tt)
all_with P (x ∷ ks) k a p = elim (cmp k x) as (λ r. AllByRecursion P (match_ordering r (k ∷ x ∷ ks) (x ∷ ks) (x ∷ with_text ks k)))
    [ Less ↦ (p, a) | Equal ↦ a | Greater ↦ (a.0, all_with P ks k a.1 p) ]

sorted_with : (ks : List (List ℕ)) (k : List ℕ) → AreSorted ks → AreSorted (with_text ks k)
unfolding IsStrictlySortedBy
sorted_with [] k s = (tt, tt)
sorted_with (x ∷ ks) k s = by_ordering (cmp k x)
    (λ a. rw (text_put k x ks Less a) ((a, all_below nat_list_cmp_total k x ks a s.0), s))
    (λ a. rw (text_put k x ks Equal a) s)
    (λ a. rw (text_put k x ks Greater a) (all_with _ ks k s.0 (flipped nat_list_cmp_total k x Greater a), sorted_with ks k s.1))

pub same_text : (k x : List ℕ) → cmp k x ≡ Equal → k ≡ x
same_text k x a = (bytes_eq-Decides k x).0 (texts_ties k x ∙ ap is_eq a)

any_with : (test : List ℕ → Bool) (ks : List (List ℕ)) (k : List ℕ) → list_any test (with_text ks k) ≡ (test k || list_any test ks)
any_with test [] k = refl
any_with test (x ∷ ks) k = by_ordering (cmp k x)
    (λ a. ap (list_any test) (text_put k x ks Less a))
    (λ a.
    let whole : list_any test (x ∷ ks) ≡ (test k || list_any test (x ∷ ks)) =
    subst (λ (q : List ℕ). list_any test (x ∷ ks) ≡ (test q || list_any test (x ∷ ks))) (sym (same_text k x a)) (twice (test x) (list_any test ks)) in
    ap (list_any test) (text_put k x ks Equal a) ∙ whole)
    (λ a.
    ap (list_any test) (text_put k x ks Greater a) ∙ ap (λ b. test x || b) (any_with test ks k) ∙ swapped (test x) (test k) (list_any test ks))

length_with : (ks : List (List ℕ)) (k : List ℕ) → is_in ks k ≡ false → length (with_text ks k) ≡ length ks + 1
length_with [] k h = refl
length_with (x ∷ ks) k h = by_ordering (cmp k x)
    (λ a. ap length (text_put k x ks Less a) ∙ (omega arith))
    (λ a.
    let there : bytes_eq k x ≡ true = (bytes_eq-Decides k x).1 (same_text k x a) in
    let z : true ≡ false = sym (ap (λ b. b || is_in ks k) there) ∙ h in absurd (cc))
    (λ a.
    let rest : is_in ks k ≡ false = by_test (bytes_eq k x)
    (λ e. let z : true ≡ false = sym (ap (λ b. b || is_in ks k) e) ∙ h in absurd (cc))
    (λ e. sym (ap (λ b. b || is_in ks k) e) ∙ h) in
    let less = length_with ks k rest in
    ap length (text_put k x ks Greater a) ∙ (omega arith))

sorted_fold : (xs ks : List (List ℕ)) → AreSorted ks → AreSorted (fold with_text ks xs)
sorted_fold [] ks s = s
sorted_fold (x ∷ xs) ks s = sorted_fold xs (with_text ks x) (sorted_with ks x s)

moved : (a b c : Bool) → ((a || b) || c) ≡ (b || (a || c))
moved true true c = refl
moved true false c = refl
moved false b c = refl

any_fold : (test : List ℕ → Bool) (xs ks : List (List ℕ)) → list_any test (fold with_text ks xs) ≡ (list_any test ks || list_any test xs)
any_fold test [] ks = or_false (list_any test ks)
  where
    or_false : (a : Bool) → a ≡ (a || false)
    or_false true = refl
    or_false false = refl
any_fold test (x ∷ xs) ks = any_fold test xs (with_text ks x) ∙ ap (λ b. b || list_any test xs) (any_with test ks x) ∙ moved (test x) (list_any test ks) (list_any test xs)

pub ascending_sorted : (xs : List (List ℕ)) → AreSorted (ascending xs)
unfolding ascending IsStrictlySortedBy
ascending_sorted xs = sorted_fold xs [] tt

-- each test finds the same texts after sorting
pub any_ascending : (test : List ℕ → Bool) (xs : List (List ℕ)) → list_any test (ascending xs) ≡ list_any test xs
unfolding ascending
any_ascending test xs = any_fold test xs []

pub in_ascending : (xs : List (List ℕ)) (z : List ℕ) → is_in (ascending xs) z ≡ is_in xs z
in_ascending xs z = any_ascending (bytes_eq z) xs

-- one more text, and the texts that differ from it
module _ (x : List ℕ) (xs : List (List ℕ)) where
  abbrev differs : List ℕ → Bool
  differs y = not (bytes_eq y x)

  one_or_other : (z : List ℕ) → (bytes_eq z x || is_in xs z) ≡ (bytes_eq z x || (differs z && is_in xs z))
  one_or_other z = elim (bytes_eq z x) as (λ b. (b || is_in xs z) ≡ (b || (not b && is_in xs z))) [ true ↦ refl | false ↦ refl ]

  one_more : ascending (x ∷ xs) ≡ with_text (ascending (filter differs xs)) x
  one_more = same_members (ascending (x ∷ xs)) (with_text (ascending (filter differs xs)) x) (ascending_sorted (x ∷ xs))
      (sorted_with (ascending (filter differs xs)) x (ascending_sorted (filter differs xs)))
      (λ z.
      in_ascending (x ∷ xs) z ∙ one_or_other z
      ∙ sym (any_with (bytes_eq z) (ascending (filter differs xs)) x ∙ ap (λ b. bytes_eq z x || b) (in_ascending (filter differs xs) z ∙ kept_in differs z xs)))

  not_there : is_in (ascending (filter differs xs)) x ≡ false
  not_there = in_ascending (filter differs xs) x ∙ kept_in differs x xs ∙ ap (λ b. not b && is_in xs x) (itself x)

  pub count_more : length (ascending (x ∷ xs)) ≡ length (ascending (filter differs xs)) + 1
  count_more = ap length one_more ∙ length_with (ascending (filter differs xs)) x not_there

-- ---- sorted texts without repetitions

pub sorted_once : (xs sorted once : List (List ℕ)) → IsPermutation xs sorted → IsSorted (slice_cmp nat_cmp) sorted
    → IsFiltered (DiffersFromLast bytes_eq) [] sorted once → once ≡ ascending xs
sorted_once xs sorted once same ordered filtered =
    let e : once ≡ dedup bytes_eq sorted = dedup_is bytes_eq sorted once filtered in
    rw e (same_members (dedup bytes_eq sorted) (ascending xs)
    (IsStrictlySortedBy-dedup nat_list_cmp_total texts_ties sorted ordered) (ascending_sorted xs)
    (λ z. dedup_in (bytes_eq z) sorted ∙ sym (list_any-IsPermutation (bytes_eq z) xs sorted same) ∙ sym (in_ascending xs z)))

-- texts may be left out before or after sorting
pub ascending_left : (keep : List ℕ → Bool) (xs : List (List ℕ)) → ascending (filter keep xs) ≡ filter keep (ascending xs)
ascending_left keep xs =
    same_members (ascending (filter keep xs)) (filter keep (ascending xs)) (ascending_sorted (filter keep xs))
    (IsStrictlySortedBy-filter (slice_cmp nat_cmp) keep (ascending xs) (ascending_sorted xs))
    (λ z. in_ascending (filter keep xs) z ∙ kept_in keep z xs ∙ sym (kept_in keep z (ascending xs) ∙ ap (λ b. keep z && b) (in_ascending xs z)))
