-- Each entry after a child's path and before another entry of the child is an entry of the child too.
use Rattle.std.proofs.Common.{◌≡◌, true, nat_eq, ◌&&◌, Bool, Option, List, ℕ, zero, suc, [], ◌∷◌, ◌++◌, ◌⊎◌, inl, inr, ⊎_elim, length, drop, refl, sym, ap, subst, ◌∙◌}
use Rattle.std.proofs.lemmas.Bool.{and_parts, and_from, eqb-true}
use Rattle.std.proofs.lemmas.Bool.Decides.{Decides-eqb}
use Rattle.std.proofs.lemmas.Slice.Eq.{starts_is, bytes_eq-Decides}
use Rattle.std.specs.List.{AllByRecursion, dedup_from, starts_with}
use Rattle.std.specs.List.Sorted.{IsStrictlySortedBy}
use Rattle.std.specs.Map.{keys_of}
use Rattle.std.specs.Str.{bytes_eq}
use Rattle.std.specs.declared.cmp.Ordering.TheVariants.{Less, Greater}
use Rattle.image_tree.proofs.Below.{between, comes_before}
use Rattle.image_tree.proofs.Names.{child_skipped, same_child}
use Rattle.image_tree.proofs.Order.{path_total}
use Rattle.lib_types.proofs.SortedPairs.{flipped}
use Rattle.image_tree.specs.Paths.{name_after, path_cmp}
use Rattle.image_tree.specs.After.{AreSortedAfter, EndsWith}
use Rattle.image_tree.specs.Runs.{IsPathOfChild, children_after, is_name_end, is_same_child}
use Rattle.image_tree.specs.Tree.{Nodes, IsPathSorted}
use Rattle.image_tree.specs.declared.node.Node.{Node}

-- the path is the child's path, or lies below it
abbrev IsWithin : List ℕ → List ℕ → Type 0
IsWithin child path = (path ≡ child) ⊎ ((s : List ℕ) × (path ≡ child ++ 47 ∷ s))

pub after_front : (f r : List ℕ) → drop (length f) (f ++ r) ≡ r
after_front [] r = refl
after_front (x ∷ f) r = after_front f r

nothing_after : (f : List ℕ) → f ++ [] ≡ f
nothing_after [] = refl
nothing_after (x ∷ f) = ap (λ l. x ∷ l) (nothing_after f)

within_child : (child path : List ℕ) → (is_name_end (drop (length child) path) && starts_with nat_eq path child) ≡ true → IsWithin child path
within_child child path h =
    let parts = and_parts (is_name_end (drop (length child) path)) (starts_with nat_eq path child) h in
    by_end (drop (length child) path) ((starts_is Decides-eqb path child (starts_with nat_eq path child) refl).0 parts.1) parts.0
  where
    by_end : (r : List ℕ) → path ≡ child ++ r → is_name_end r ≡ true → IsWithin child path
    by_end [] whole end = inl (whole ∙ nothing_after child)
    by_end (b ∷ s) whole end = inr (s, whole ∙ ap (λ z. child ++ z ∷ s) (eqb-true b 47 end))

module _ (folder name child : List ℕ) (whole : IsPathOfChild folder name child) where
  abbrev is_of_child : List ℕ → Bool
  is_of_child path = starts_with nat_eq path folder && bytes_eq (name_after (length folder) path) name

  of_child : (path : List ℕ) → is_of_child path ≡ true → IsWithin child path
  of_child path h = within_child child path (same_child folder name child path whole ∙ h)

  of_child_below : (path s : List ℕ) → path ≡ child ++ 47 ∷ s → is_of_child path ≡ true
  of_child_below path s e =
      let end : is_name_end (drop (length child) path) ≡ true = ap (λ p. is_name_end (drop (length child) p)) e ∙ ap is_name_end (after_front child (47 ∷ s)) in
      let starts : starts_with nat_eq path child ≡ true = (starts_is Decides-eqb path child (starts_with nat_eq path child) refl).1 (47 ∷ s) e in
      sym (same_child folder name child path whole) ∙ and_from _ _ end starts

  of_child_between : (path later : List ℕ) → path_cmp child path ≡ Less → path_cmp path later ≡ Less → is_of_child later ≡ true → is_of_child path ≡ true
  of_child_between path later following before h = ⊎_elim
      (λ same.
      let z : Less ≡ Greater = sym (subst (λ q. path_cmp path q ≡ Less) same before) ∙ flipped path_total child path Less following in absurd (cc))
      (λ below. let r = between child path below.0 following (subst (λ q. path_cmp path q ≡ Less) below.1 before) in of_child_below path r.0 r.1)
      (of_child later h)

  front_skipped : (node : Option Node) (front t : Nodes) (e : List ℕ × Node) → AreSortedAfter child (front ++ e ∷ t) → is_of_child e.0 ≡ true
      → dedup_from is_same_child (name, node) (children_after folder (front ++ e ∷ t)) ≡ dedup_from is_same_child (name, node) (children_after folder (e ∷ t))
  unfolding IsStrictlySortedBy
  front_skipped there [] t e sorted h = refl
  front_skipped there (x ∷ front) t e sorted h =
      child_skipped folder name there x (front ++ e ∷ t) (of_child_between x.0 e.0 sorted.0.0 (at_last (λ y. path_cmp x.0 y ≡ Less) front t e sorted.1.0) h)
      ∙ front_skipped there front t e (sorted.0.1, sorted.1.1) h
    where
      at_last : (P : List ℕ → Type 0) (front t : Nodes) (e : List ℕ × Node) → AllByRecursion P (keys_of (front ++ e ∷ t)) → P e.0
      at_last P [] t e a = a.0
      at_last P (x ∷ front) t e a = at_last P front t e a.1

  -- skipping to a later entry of the child leaves the same children
  pub run_skipped : (node : Option Node) (t last : Nodes) (e : List ℕ × Node) → AreSortedAfter child t → EndsWith t e last → is_of_child e.0 ≡ true
      → dedup_from is_same_child (name, node) (children_after folder last) ≡ dedup_from is_same_child (name, node) (children_after folder t)
  run_skipped there t last e sorted ends h =
      let all : t ≡ ends.front ++ e ∷ ends.more = ends.whole ∙ ap (λ l. ends.front ++ l) ends.first in
      ap (λ l. dedup_from is_same_child (name, there) (children_after folder l)) ends.first
      ∙ sym (front_skipped there ends.front ends.more e (subst (AreSortedAfter child) all sorted) h)
      ∙ sym (ap (λ l. dedup_from is_same_child (name, there) (children_after folder l)) all)

-- ---- entries after a path

after_back : (path : List ℕ) (front t : Nodes) → AreSortedAfter path (front ++ t) → AreSortedAfter path t
unfolding IsStrictlySortedBy
after_back path [] t sorted = sorted
after_back path (x ∷ front) t sorted = after_back path front t (sorted.0.1, sorted.1.1)

pub after_last : (path : List ℕ) (t last : Nodes) (e : List ℕ × Node) → AreSortedAfter path t → EndsWith t e last → AreSortedAfter path last
after_last path t last e sorted ends = after_back path ends.front last (subst (AreSortedAfter path) ends.whole sorted)

pub after_tail : (path : List ℕ) (e : List ℕ × Node) (t : Nodes) → AreSortedAfter path (e ∷ t) → AreSortedAfter path t
after_tail path e t sorted = after_back path (e ∷ []) t sorted

pub after_sorted : (path : List ℕ) (t : Nodes) → AreSortedAfter path t → IsPathSorted t
unfolding IsStrictlySortedBy
after_sorted path t sorted = sorted.1

all_after : (p q : List ℕ) (ks : List (List ℕ)) → path_cmp p q ≡ Less → AllByRecursion (λ y. path_cmp q y ≡ Less) ks → AllByRecursion (λ y. path_cmp p y ≡ Less) ks
all_after p q [] less a = tt
all_after p q (k ∷ ks) less a = (path_total.trans p q k less a.0, all_after p q ks less a.1)

after_below : (child s : List ℕ) (e : List ℕ × Node) (t : Nodes) → e.0 ≡ child ++ 47 ∷ s → IsPathSorted (e ∷ t) → AreSortedAfter child t
unfolding IsStrictlySortedBy
after_below child s e t below sorted = (all_after child e.0 (keys_of t) (subst (λ z. path_cmp child z ≡ Less) (sym below) (comes_before child s)) sorted.0, sorted.1)

-- the entries after an entry of the child come after the child's path
pub after_child : (folder name child : List ℕ) (e : List ℕ × Node) (t : Nodes) → IsPathOfChild folder name child → starts_with nat_eq e.0 folder ≡ true → name ≡ name_after (length folder) e.0
    → IsPathSorted (e ∷ t) → AreSortedAfter child t
after_child folder name child e t whole starts same sorted =
    ⊎_elim
    (λ here. subst (λ z. AreSortedAfter z t) here sorted)
    (λ below. after_below child below.0 e t below.1 sorted)
    (of_child folder name child whole e.0 (and_from _ _ starts ((bytes_eq-Decides _ _).1 (sym same))))

pub sorted_dropped : (t : Nodes) (n : ℕ) → IsPathSorted t → IsPathSorted (drop n t)
unfolding IsStrictlySortedBy
sorted_dropped [] zero sorted = tt
sorted_dropped [] (suc n) sorted = tt
sorted_dropped (e ∷ t) zero sorted = sorted
sorted_dropped (e ∷ t) (suc n) sorted = sorted_dropped t n sorted.1

pub none_sorted : IsPathSorted []
unfolding IsStrictlySortedBy
none_sorted = tt
