-- Looking up stamps by identity.
use Rattle.std.proofs.Common.{◌≡◌, ◌+◌, ◌++◌, ◌||◌, Bool, true, false, cond, List, [], ◌∷◌, All, length, map, Option, Some, None, refl, ap, sym, subst, ◌∙◌, arith, Ordering}
use Rattle.std.proofs.lemmas.Cmp.{tied_itself}
use Rattle.std.proofs.lemmas.Map.Views.{IfSome-lookup_from_All}
use Rattle.std.specs.BTreeMap.{insert_entry, is_at}
use Rattle.std.specs.List.{AllByRecursion}
use Rattle.std.specs.List.Sorted.{IsStrictlySortedBy}
use Rattle.std.specs.Map.{lookup}
use Rattle.std.specs.Option.{is_some}
use Rattle.std.specs.Prelude.{IfSome}
use Rattle.std.specs.Ordering.{is_eq}
use Rattle.std.specs.declared.cmp.Ordering.TheVariants.{Less, Equal, Greater}
use Rattle.lib_types.proofs.SortedPairs.{by_ordering, by_test}
use Rattle.image_tree.specs.declared.node.Id.{Id}
use Rattle.aux_cache.proofs.Sorted.{exact, id_total, put_pairs, values_are}
use Rattle.aux_cache.specs.Ids.{id_cmp}
use Rattle.aux_cache.specs.Stamps.{IsSortedById, by_id, put, stamp_of}
use Rattle.aux_cache.specs.declared.stamps.Stamp.{Stamp}

-- ---- in two lists

-- the first result that is Some
abbrev pub first_of : Option Stamp → Option Stamp → Option Stamp
first_of (Some s) other = Some s
first_of None other = other

pub stamp_of_both : (xs ys : List Stamp) (id : Id) → stamp_of (xs ++ ys) id ≡ first_of (stamp_of xs id) (stamp_of ys id)
stamp_of_both [] ys id = refl
stamp_of_both (x ∷ xs) ys id = by_test (is_eq (id_cmp id x.id))
    (λ e. rw e refl)
    (λ e. rw e (stamp_of_both xs ys id))

pub some_of_both : (xs ys : List Stamp) (id : Id) → is_some (stamp_of (xs ++ ys) id) ≡ (is_some (stamp_of xs id) || is_some (stamp_of ys id))
some_of_both xs ys id = ap is_some (stamp_of_both xs ys id) ∙ elim (stamp_of xs id) as (λ o. is_some (first_of o (stamp_of ys id)) ≡ (is_some o || is_some (stamp_of ys id)))
    [ Some s ↦ refl | None ↦ refl ]

-- ---- after inserting a stamp

abbrev pub is_same : Id → Id → Bool
is_same id other = is_eq (id_cmp id other)

pub same_is : (id other : Id) → is_same id other ≡ true → id ≡ other
same_is id other e = exact id other (equal (id_cmp id other) e)
  where
    equal : (r : Ordering) → is_eq r ≡ true → r ≡ Equal
    equal Less e = absurd (cc)
    equal Equal e = refl
    equal Greater e = absurd (cc)

pub stamp_of_put : (xs : List Stamp) (s : Stamp) (id : Id) → stamp_of (put xs s) id ≡ cond (is_same id s.id) (Some s) (stamp_of xs id)
stamp_of_put xs s id = ap (λ es. lookup (is_at (id_cmp id)) es) (sym (put_pairs xs s)) ∙ found xs
  where
    found : (xs : List Stamp) → lookup (is_at (id_cmp id)) (insert_entry id_cmp (by_id xs) s.id s) ≡ cond (is_same id s.id) (Some s) (stamp_of xs id)
    found [] = refl
    found (x ∷ xs) = by_ordering (id_cmp s.id x.id)
        (λ e. rw e refl)
        (λ e.
        let P : Id → Type 0 = λ k. cond (is_same id x.id) (Some s) (stamp_of xs id) ≡ cond (is_same id k) (Some s) (cond (is_same id x.id) (Some x) (stamp_of xs id)) in
        rw e (subst P (sym (exact s.id x.id e)) (twice x (stamp_of xs id) (is_same id x.id))))
        (λ e. rw e (ap (λ o. cond (is_same id x.id) (Some x) o) (found xs) ∙ swapped x (stamp_of xs id) (is_same id x.id) (is_same id s.id) (other x e)))
      where
        twice : (x : Stamp) (o : Option Stamp) (b : Bool) → cond b (Some s) o ≡ cond b (Some s) (cond b (Some x) o)
        twice x o true = refl
        twice x o false = refl

        swapped : (x : Stamp) (o : Option Stamp) (a b : Bool) → (a ≡ true → b ≡ false) → cond a (Some x) (cond b (Some s) o) ≡ cond b (Some s) (cond a (Some x) o)
        swapped x o true b h = rw (h refl) refl
        swapped x o false b h = refl

        other : (x : Stamp) → id_cmp s.id x.id ≡ Greater → is_same id x.id ≡ true → is_same id s.id ≡ false
        other x e first = by_test (is_same id s.id)
            (λ second.
            let same : s.id ≡ x.id = sym (same_is id s.id second) ∙ same_is id x.id first in
            let z : Equal ≡ Greater = sym (tied_itself id_total x.id) ∙ ap (λ k. id_cmp k x.id) (sym same) ∙ e in
            absurd (cc))
            (λ second. second)

-- A fact about each stamp is a fact about the stamp that is found.
pub found_holds : (P : Stamp → Type 0) (xs : List Stamp) (id : Id) → All P xs → IfSome (stamp_of xs id) P
found_holds P xs id all = IfSome-lookup_from_All P (is_at (id_cmp id)) (by_id xs) (rw (values_are xs) all)

-- ---- the number of stamps after an insertion

module _ (s : Stamp) where
  -- a stamp with a new identity
  pub more_put : (xs : List Stamp) → stamp_of xs s.id ≡ None → length (put xs s) ≡ length xs + 1
  more_put [] none = refl
  more_put (x ∷ xs) none = by_ordering (id_cmp s.id x.id)
      (λ e. let n = ap length (values_are xs) in rw e (omega (arith, n)))
      (λ e. let z : Some x ≡ None = sym (ap (λ r. cond (is_eq r) (Some x) (stamp_of xs s.id)) e) ∙ none in absurd (cc))
      (λ e. let rest = more_put xs (sym (ap (λ r. cond (is_eq r) (Some x) (stamp_of xs s.id)) e) ∙ none) in rw e (omega (arith, rest)))

  none_above : (xs : List Stamp) → AllByRecursion (λ id. id_cmp s.id id ≡ Less) (map (λ x. x.id) xs) → stamp_of xs s.id ≡ None
  none_above [] all = refl
  none_above (x ∷ xs) all = ap (λ r. cond (is_eq r) (Some x) (stamp_of xs s.id)) all.0 ∙ none_above xs all.1

  all_below : (x : Id) (ids : List Id) → id_cmp s.id x ≡ Less → AllByRecursion (λ id. id_cmp x id ≡ Less) ids → AllByRecursion (λ id. id_cmp s.id id ≡ Less) ids
  all_below x [] less all = tt
  all_below x (id ∷ ids) less all = (id_total.trans s.id x id less all.0, all_below x ids less all.1)

  -- a stamp whose identity is already there
  pub same_put : (xs : List Stamp) → IsSortedById xs → is_some (stamp_of xs s.id) ≡ true → length (put xs s) ≡ length xs
  unfolding IsStrictlySortedBy
  same_put [] sorted there = absurd (cc)
  same_put (x ∷ xs) sorted there = by_ordering (id_cmp s.id x.id)
      (λ e.
      let none : stamp_of (x ∷ xs) s.id ≡ None = none_above (x ∷ xs) (e, all_below x.id (map (λ x. x.id) xs) e sorted.0) in
      let z : true ≡ false = sym there ∙ ap is_some none in absurd (cc))
      (λ e. let n = ap length (values_are xs) in rw e (omega (arith, n)))
      (λ e. let rest = same_put xs sorted.1 (sym (ap (λ r. is_some (cond (is_eq r) (Some x) (stamp_of xs s.id))) e) ∙ there) in rw e (omega (arith, rest)))
