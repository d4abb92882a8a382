-- A tree with a part of its planned links is a tree if the planned tree has room.
use Rattle.std.proofs.Common.{◌≡◌, ◌≤◌, true, not, List, [], ◌∷◌, length, ap, subst, arith}
use Rattle.std.proofs.lemmas.Bool.{and_parts}
use Rattle.hwcap_dirs.proofs.Reals.{all_left}
use Rattle.hwcap_dirs.specs.Places.{are_dirs}
use Rattle.hwcap_dirs.specs.declared.kinds.Place.{Place}
use Rattle.lib_types.proofs.Bools.{not_true}
use Rattle.lib_types.proofs.SortedPairs.{sorted_put}
use Rattle.lib_types.specs.Name.{is_name}
use Rattle.file_table.specs.Analyses.{Analyses, HaveNames}
use Rattle.image_tree.proofs.Kept.{put_tree}
use Rattle.image_tree.proofs.Order.{path_total}
use Rattle.image_tree.specs.Paths.{is_path}
use Rattle.image_tree.specs.Tree.{Nodes, IsPathSorted, IsTree, clashes}
use Rattle.image_tree.specs.declared.node.Node.TheVariants as node
use Rattle.image_tree.specs.declared.tree.TheConstants.{NODES_MAX}
use Rattle.link_plan.specs.declared.kinds.Planned.{Planned}
use Rattle.soname_links.proofs.Clear.{room_clear}
use Rattle.soname_links.proofs.Counted.{nodes_counted}
use Rattle.soname_links.proofs.Named.{links_named}
use Rattle.soname_links.proofs.Rooms.{have_room}
use Rattle.soname_links.proofs.Targets.{name_is_target}
use Rattle.soname_links.specs.Apply.{are_clear, is_link, is_plan, nodes_with}
use Rattle.soname_links.specs.Plan.{links, with_link, with_links}
use Rattle.partial_links.proofs.Parts.{rest_put, room_left, there, whole}
use Rattle.partial_links.proofs.Rest.{all_there}
use Rattle.partial_links.specs.Partial.{HasPart, is_made, missing}

-- links that can be put, and for which there is room, give a tree
tree_with : (plan : List Planned) (t : Nodes) → IsTree t → is_plan plan ≡ true → are_clear t plan ≡ true → length (with_links t plan) ≤ NODES_MAX → IsTree (with_links t plan)
tree_with [] t tree proper clear few = tree
tree_with (planned ∷ plan) t tree proper clear few =
    let s = with_link t planned in
    let parts = and_parts (is_link planned) (is_plan plan) proper in
    let link = and_parts (is_path planned.path) (is_name planned.file) parts.0 in
    let clears = and_parts (not (clashes t planned.path (node.Link planned.file))) (are_clear s plan) clear in
    let size : nodes_with s plan ≡ length (with_links s plan) = nodes_counted plan s (sorted_put path_total planned.path t (node.Link planned.file) tree.sorted) in
    let next : IsTree s = put_tree t planned.path (node.Link planned.file) (not_true _ clears.0) tree link.0 (name_is_target planned.file link.1) (omega (arith, size, few)) in
    tree_with plan s next parts.1 clears.1 few

module _ (what : Analyses) (named : HaveNames what) (t new : Nodes) (tree : IsTree t) (sorted : IsPathSorted new) (places : List Place) (dirs : are_dirs t places ≡ true)
    (few : nodes_with t (links what t places) ≤ NODES_MAX) (part : HasPart t (links what t places) new) where
  abbrev plan : List Planned
  plan = links what t places

  abbrev some : List Planned
  some = there new plan

  same : with_links t some ≡ new
  same = whole new t plan tree.sorted sorted part

  -- the tree has no more nodes than the planned tree
  small : length (with_links t some) ≤ NODES_MAX
  small =
      let size : nodes_with t plan ≡ length (with_links t plan) = nodes_counted plan t tree.sorted in
      let later : nodes_with new (missing new plan) ≡ length (with_links new (missing new plan)) = nodes_counted (missing new plan) new sorted in
      let planned : length (with_links new (missing new plan)) ≡ length (with_links t plan) = ap length (rest_put new t plan tree.sorted sorted part (all_there what named t tree places dirs)) in
      let here : length (with_links t some) ≡ length new = ap length same in
      omega (arith, size, later, planned, here, few)

  pub part_tree : IsTree new
  part_tree =
      let room = room_left t (is_made new) plan (have_room what named t tree places dirs) in
      subst (λ (n : Nodes). IsTree n) same
      (tree_with some t tree (all_left is_link (is_made new) plan (links_named what t tree.entries named places dirs)) (room_clear t tree some room) small)
