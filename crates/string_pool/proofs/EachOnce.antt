-- Lists that store each item once.
use Rattle.std.proofs.Common.{◌≡◌, ◌||◌, ℕ, zero, suc, Bool, true, nat_eq, List, [], ◌∷◌, length, map, refl, ap, sym, subst, ◌∙◌, Some, None, arith}
use Rattle.std.proofs.lemmas.Bool.{or_right}
use Rattle.std.proofs.lemmas.Bool.Decides.{nat_tests}
use Rattle.std.proofs.lemmas.List.Folds.{list_any-append}
use Rattle.std.proofs.lemmas.Option.{slice_get-map, slice_get_within}
use Rattle.std.specs.List.{cons_option, flat_map, list_any, slice_get}
use Rattle.std.specs.Option.{option_map}
use Rattle.std.specs.Str.{bytes_eq}
use Rattle.lib_types.proofs.SortedPairs.{by_test}
use Rattle.string_pool.proofs.InByteOrder.{ascending_sorted, in_ascending}
use Rattle.string_pool.proofs.Members.{same_members}
use Rattle.string_pool.specs.Order.{ascending}
use Rattle.string_pool.specs.Shared.{taken, AreRows, HaveSame}

-- an item that passes a test
record Passing {X : Type 0} (test : X → Bool) (xs : List X) : Type 0 where
  row : ℕ
  item : X
  there : slice_get xs row ≡ Some item
  passes : test item ≡ true

module _ {X : Type 0} (test : X → Bool) where
  one_there : (xs : List X) (row : ℕ) (x : X) → slice_get xs row ≡ Some x → test x ≡ true → list_any test xs ≡ true
  one_there [] row x e h = absurd (cc)
  one_there (y ∷ ys) zero x e h =
      let same : y ≡ x = cc in
      ap (λ b. b || list_any test ys) (ap test same ∙ h)
  one_there (y ∷ ys) (suc row) x e h = or_right (test y) (list_any test ys) (one_there ys row x e h)

  some_there : (xs : List X) → list_any test xs ≡ true → Passing test xs
  some_there [] h = absurd (cc)
  some_there (x ∷ xs) h = by_test (test x)
      (λ t. record { row = 0; item = x; there = refl; passes = t })
      (λ f.
      let rest = some_there xs (sym (ap (λ b. b || list_any test xs) f) ∙ h) in
      record { row = suc rest.row; item = rest.item; there = rest.there; passes = rest.passes })

  module _ (items : List X) where
    kept_there : (rows : List ℕ) → list_any test (taken items rows) ≡ true → list_any test items ≡ true
    kept_there [] h = absurd (cc)
    kept_there (row ∷ rows) h =
        elim (slice_get items row) as (λ o. slice_get items row ≡ o → list_any test (cons_option o (taken items rows)) ≡ true → list_any test items ≡ true) [
          | None ↦ λ e h. kept_there rows h
          | Some x ↦ λ e h. by_test (test x)
              (λ t. one_there items row x e t)
              (λ f. kept_there rows (sym (ap (λ b. b || list_any test (taken items rows)) f) ∙ h))
        ] refl h

    taken_there : (row : ℕ) (x : X) → slice_get items row ≡ Some x → test x ≡ true → (rows : List ℕ) → list_any (nat_eq row) rows ≡ true → list_any test (taken items rows) ≡ true
    taken_there row x e t [] h = absurd (cc)
    taken_there row x e t (other ∷ rows) h = by_test (nat_eq row other)
        (λ same.
        let is : row ≡ other = grind (arith, nat_tests) in
        let here : slice_get items other ≡ Some x = subst (λ (q : ℕ). slice_get items q ≡ Some x) is e in
        ap (λ o. list_any test (cons_option o (taken items rows))) here ∙ ap (λ b. b || list_any test (taken items rows)) t)
        (λ differs.
        let rest = taken_there row x e t rows (sym (ap (λ b. b || list_any (nat_eq row) rows) differs) ∙ h) in
        elim (slice_get items other) as (λ o. list_any test (cons_option o (taken items rows)) ≡ true)
        [ None ↦ rest | Some y ↦ or_right (test y) (list_any test (taken items rows)) rest ])

    all_alike : (rows : List ℕ) → AreRows (length items) rows → list_any test items ≡ list_any test (taken items rows)
    all_alike rows are = by_test (list_any test items)
        (λ h.
        let some = some_there items h in
        h ∙ sym (taken_there some.row some.item some.there some.passes rows (are.used some.row (slice_get_within items some.row some.item some.there))))
        (λ h. by_test (list_any test (taken items rows))
        (λ k. let z : list_any test items ≡ true = kept_there rows k in absurd (cc))
        (λ k. h ∙ sym k))

pub each_alike : {X : Type 0} (items : List X) (rows : List ℕ) → AreRows (length items) rows → HaveSame items (taken items rows)
each_alike items rows are test = all_alike test items rows are

-- ---- a function applied to each item

module _ {X Y : Type 0} (f : X → Y) (xs : List X) where
  pub taken_made : (rows : List ℕ) → taken (map f xs) rows ≡ map f (taken xs rows)
  taken_made [] = refl
  taken_made (row ∷ rows) = ap (λ o. cons_option o (taken (map f xs) rows)) (slice_get-map f xs row)
      ∙ elim (slice_get xs row) as (λ o. cons_option (option_map f o) (taken (map f xs) rows) ≡ map f (cons_option o (taken xs rows)))
      [ None ↦ taken_made rows | Some x ↦ ap (λ ys. f x ∷ ys) (taken_made rows) ]

-- ---- the texts of the same items

module _ {X : Type 0} (test : List ℕ → Bool) (f : X → List (List ℕ)) where
  in_flat : (xs : List X) → list_any test (flat_map f xs) ≡ list_any (λ x. list_any test (f x)) xs
  in_flat [] = refl
  in_flat (x ∷ xs) = list_any-append test (f x) (flat_map f xs) ∙ ap (λ b. list_any test (f x) || b) (in_flat xs)

pub ascending_alike : {X : Type 0} (f : X → List (List ℕ)) (xs ys : List X) → HaveSame xs ys → ascending (flat_map f xs) ≡ ascending (flat_map f ys)
ascending_alike f xs ys same =
    same_members (ascending (flat_map f xs)) (ascending (flat_map f ys)) (ascending_sorted (flat_map f xs)) (ascending_sorted (flat_map f ys))
    (λ z.
    in_ascending (flat_map f xs) z ∙ in_flat (bytes_eq z) f xs ∙ same (λ x. list_any (bytes_eq z) (f x)) ∙ sym (in_flat (bytes_eq z) f ys) ∙ sym (in_ascending (flat_map f ys) z))
