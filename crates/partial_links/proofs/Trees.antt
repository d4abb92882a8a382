-- The tree of a directory, in which each directory has a node, is a tree if it isn't too large.
use Rattle.std.proofs.Common.{◌≡◌, ◌≤◌, ℕ, Bool, true, false, cond, not, ◌&&◌, List, [], ◌∷◌, length, refl, ap, sym, ◌∙◌, Some}
use Rattle.std.proofs.lemmas.Bool.{and_from, and_parts, or_from, or_left, or_right}
use Rattle.std.proofs.lemmas.Cmp.{tied_itself}
use Rattle.std.proofs.lemmas.Map.Keys.{sorted_head, sorted_tail}
use Rattle.std.specs.List.{AllByRecursion, list_all, list_any}
use Rattle.std.specs.Map.{keys_of}
use Rattle.std.specs.Ordering.{is_eq}
use Rattle.std.specs.declared.cmp.Ordering.TheVariants.{Less}
use Rattle.lib_types.proofs.SortedPairs.{flipped}
use Rattle.image_tree.proofs.Order.{path_total}
use Rattle.image_tree.specs.Node.{is_dir, is_node}
use Rattle.image_tree.specs.Paths.{is_below, is_path, path_cmp}
use Rattle.image_tree.specs.Tree.{Nodes, IsPathSorted, IsTree, clash_with, clashes, has_below, is_entry, node_at}
use Rattle.image_tree.specs.declared.node.Node.{Node}
use Rattle.image_tree.specs.declared.node.Node.TheVariants as node
use Rattle.image_tree.specs.declared.tree.TheConstants.{NODES_MAX}
use Rattle.root_folder.proofs.Dirs.{dir_above}
use Rattle.root_folder.specs.Whole.{IsWhole}

-- ---- each node is found

abbrev AreFound : Nodes → Nodes → Type 0
AreFound t some = AllByRecursion (λ (e : List ℕ × Node). node_at t e.0 ≡ Some e.1) some

found_after : (x : List ℕ × Node) (t some : Nodes) → AllByRecursion (λ k. path_cmp x.0 k ≡ Less) (keys_of some) → AreFound t some → AreFound (x ∷ t) some
found_after x t [] following found = tt
found_after x t (e ∷ some) following found =
    (ap (λ r. cond (is_eq r) (Some x.1) (node_at t e.0)) (flipped path_total x.0 e.0 Less following.0) ∙ found.0, found_after x t some following.1 found.1)

all_found : (t : Nodes) → IsPathSorted t → AreFound t t
all_found [] sorted = tt
all_found (x ∷ t) sorted = (
  ap (λ r. cond (is_eq r) (Some x.1) (node_at t x.0)) (tied_itself path_total x.0),
  found_after x t t (sorted_head path_cmp x.0 (keys_of t) sorted) (all_found t (sorted_tail path_cmp x.0 (keys_of t) sorted)),
)

-- ---- what is above a node is a directory

module _ (t : Nodes) where
  -- what is above it has something below it, and if something is below it, it is a directory
  pub record IsSound (e : List ℕ × Node) : Type 0 where
    pub above : (q : List ℕ) → is_below q e.0 ≡ true → has_below t q ≡ true
    pub dir : has_below t e.0 ≡ true → is_dir e.1 ≡ true

  some_dir : {a : Node} → Some a ≡ Some node.Dir → is_dir a ≡ true
  some_dir e = let same : _ ≡ node.Dir = cc in ap is_dir same

  all_sound : IsWhole t → (some : Nodes) → ((q : List ℕ) → has_below some q ≡ true → has_below t q ≡ true) → list_all is_entry some ≡ true → AreFound t some → AllByRecursion IsSound some
  all_sound whole [] into entries found = tt
  all_sound whole (e ∷ some) into entries found =
      let parts = and_parts (is_entry e) (list_all is_entry some) entries in
      let proper = (and_parts (is_path e.0) (is_node e.1) parts.0).0 in (
        record {
          above = λ q below. into q (or_left (is_below q e.0) (has_below some q) below);
          dir = λ below. some_dir (sym found.0 ∙ dir_above t whole e.0 proper below);
        },
        all_sound whole some (λ q below. into q (or_right (is_below q e.0) (has_below some q) below)) parts.1 found.1,
      )

  differ : (below dir : Bool) → (below ≡ true → dir ≡ true) → (below && not dir) ≡ false
  differ true true h = refl
  differ true false h = let z : false ≡ true = h refl in absurd (cc)
  differ false dir h = refl

  swapped : (below dir : Bool) → (below ≡ true → dir ≡ true) → (not dir && below) ≡ false
  swapped true true h = refl
  swapped true false h = let z : false ≡ true = h refl in absurd (cc)
  swapped false true h = refl
  swapped false false h = refl

  none_clashes : (e : List ℕ × Node) → IsSound e → (some : Nodes) → AllByRecursion IsSound some → list_any (clash_with e.0 e.1) some ≡ false
  none_clashes e sound [] all = refl
  none_clashes e sound (x ∷ some) all =
      or_from _ _
      (or_from _ _
      (differ (is_below x.0 e.0) (is_dir x.1) (λ below. all.0.dir (sound.above x.0 below)))
      (swapped (is_below e.0 x.0) (is_dir e.1) (λ below. sound.dir (all.0.above e.0 below))))
      (none_clashes e sound some all.1)

  all_clear : (some : Nodes) → AllByRecursion IsSound some → AllByRecursion IsSound t → list_all (λ e. not (clashes t e.0 e.1)) some ≡ true
  all_clear [] these all = refl
  all_clear (e ∷ some) these all = and_from _ _ (ap not (none_clashes e these.0 t all)) (all_clear some these.1 all)

pub whole_tree : (t : Nodes) → IsWhole t → length t ≤ NODES_MAX → IsTree t
whole_tree t whole few =
    let all = all_sound t whole t (λ q below. below) whole.entries (all_found t whole.sorted) in
    record { sorted = whole.sorted; entries = whole.entries; few = few; clear = all_clear t t all all }
