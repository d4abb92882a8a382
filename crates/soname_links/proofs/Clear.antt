-- No link that is planned clashes.
use Rattle.std.proofs.Common.{◌≡◌, ℕ, ◌<◌, Bool, true, false, not, ◌&&◌, List, [], ◌∷◌, length, get_or, refl, ap, sym, subst, ◌∙◌, Option, Some, None}
use Rattle.std.proofs.lemmas.Bool.{and_from, and_parts, or_from}
use Rattle.std.proofs.lemmas.Cmp.{tied_itself}
use Rattle.std.proofs.lemmas.List.{get_or_default}
use Rattle.std.proofs.lemmas.List.Folds.{list_any_none}
use Rattle.std.proofs.lemmas.List.Sums.{AllPass-from_list_all}
use Rattle.std.specs.List.{AllByRecursion}
use Rattle.std.specs.declared.cmp.Ordering.TheVariants.{Equal}
use Rattle.hwcap_dirs.specs.Places.{are_dirs}
use Rattle.hwcap_dirs.specs.declared.kinds.Place.{Place}
use Rattle.lib_types.proofs.Bools.{not_true}
use Rattle.lib_types.proofs.SortedPairs.{by_test}
use Rattle.path_walk.proofs.KindsAt.{at_path}
use Rattle.file_table.specs.Analyses.{Analyses, HaveNames}
use Rattle.image_tree.proofs.Above.{clash_below, found_passes}
use Rattle.image_tree.proofs.Below.{not_root}
use Rattle.image_tree.proofs.Clear.{none_put}
use Rattle.image_tree.proofs.KindAt.{kind_found}
use Rattle.image_tree.proofs.Order.{path_total}
use Rattle.image_tree.specs.Index.{IsIndexOf, has_file_above, is_file_above}
use Rattle.image_tree.specs.Node.{is_dir}
use Rattle.image_tree.specs.Paths.{is_below, is_path, path_cmp}
use Rattle.image_tree.specs.Tree.{Nodes, IsTree, clash_with, clashes, has_below, is_entry, kind_of, kind_there, node_at}
use Rattle.image_tree.specs.declared.node.Node.{Node}
use Rattle.image_tree.specs.declared.node.Node.TheVariants as node
use Rattle.image_tree.specs.declared.tree.Kind.TheVariants as kinds
use Rattle.soname_links.proofs.Rooms.{HaveRoom, IsRoom, have_room}
use Rattle.soname_links.specs.Apply.{are_clear}
use Rattle.soname_links.specs.Plan.{is_taken, links, with_link}
use Rattle.link_plan.specs.declared.kinds.Planned.{Planned}

-- ---- a path that has room

module _ (t : Nodes) (tree : IsTree t) (path : List ℕ) (room : IsRoom t path) where
  dir_node : (n : Node) → kind_of n ≡ kinds.Dir → not (is_dir n) ≡ true → ⊥
  dir_node node.Dir e h = cc
  dir_node (node.File key id) e h = cc
  dir_node (node.Link target) e h = cc

  -- each entry above it is a directory
  above_dir : (k : ℕ) (d : List ℕ × Node) → k < length t → is_file_above path (get_or t k d) ≡ true → ⊥
  above_dir k d h above =
      let q = (get_or t k d).0 in
      let parts = and_parts (is_below q path) (not (is_dir (get_or t k d).1)) above in
      let proper = (and_parts (is_path q) _ (AllPass-from_list_all is_entry t tree.entries k d h)).0 in
      let index : IsIndexOf t q k = record { within = h; same = λ c. subst (λ (e : List ℕ × Node). path_cmp e.0 q ≡ Equal) (get_or_default t k d c h) (tied_itself path_total q) } in
      dir_node (get_or t k d).1 (sym (kind_found t q (not_root q proper) k tree index d) ∙ room.above q proper parts.0) parts.1

  no_file_above : has_file_above t path ≡ false
  no_file_above = list_any_none (is_file_above path) t (λ k d h.
      by_test (is_file_above path (get_or t k d)) (λ above. absurd (above_dir k d h above)) (λ none. none))

  untaken : is_taken (kind_there (node_at t path) (has_below t path)) ≡ false
  untaken = sym (ap is_taken (at_path t path (not_root path room.proper) room.proper)) ∙ room.free

  -- a link there doesn't clash
  clear_at : (file : List ℕ) → clashes t path (node.Link file) ≡ false
  clear_at file = by (node_at t path) refl (has_below t path) refl untaken
    where
      by : (o : Option Node) → node_at t path ≡ o → (b : Bool) → has_below t path ≡ b → is_taken (kind_there o b) ≡ false → clashes t path (node.Link file) ≡ false
      by None e false b free = clash_below t path (node.Link file) no_file_above refl ∙ b
      by None e true b free = absurd (cc)
      by (Some (node.Link target)) e below b free = not_true _ (found_passes (λ (x : List ℕ × Node). not (clashes t x.0 x.1)) t path (node.Link target) e tree.clear)
      by (Some node.Dir) e below b free = absurd (cc)
      by (Some (node.File key id)) e below b free = absurd (cc)

-- none of two such paths lies below the other
not_below : (t : Nodes) (p q : List ℕ) → IsRoom t p → IsRoom t q → is_below p q ≡ false
not_below t p q here there = by_test (is_below p q)
    (λ below. let z : true ≡ false = sym (ap is_taken (there.above p here.proper below)) ∙ here.free in absurd (cc))
    (λ differ. differ)

-- ---- one link after another

abbrev AllClear : Nodes → List Planned → Type 0
AllClear t plan = AllByRecursion (λ planned. clashes t planned.path (node.Link planned.file) ≡ false) plan

all_clear : (t : Nodes) → IsTree t → (plan : List Planned) → HaveRoom t plan → AllClear t plan
all_clear t tree [] room = tt
all_clear t tree (planned ∷ plan) room = (clear_at t tree planned.path room.0 planned.file, all_clear t tree plan room.1)

module _ (first : Nodes) where
  -- a link that is put leaves the others clear
  clear_later : (planned : Planned) → IsRoom first planned.path → (t : Nodes) (plan : List Planned) → HaveRoom first plan → AllClear t plan → AllClear (with_link t planned) plan
  clear_later planned here t [] room all = tt
  clear_later planned here t (next ∷ plan) room all =
      let differ : clash_with next.path (node.Link next.file) (planned.path, node.Link planned.file) ≡ false =
      or_from _ _ (ap (λ b. b && true) (not_below first planned.path next.path here room.0)) (not_below first next.path planned.path room.0 here) in (
        none_put (clash_with next.path (node.Link next.file)) t planned.path (node.Link planned.file) all.0 differ,
        clear_later planned here t plan room.1 all.1,
      )

  clear_in_turn : (plan : List Planned) (t : Nodes) → HaveRoom first plan → AllClear t plan → are_clear t plan ≡ true
  clear_in_turn [] t room all = refl
  clear_in_turn (planned ∷ plan) t room all =
      and_from _ _ (ap not all.0) (clear_in_turn plan (with_link t planned) room.1 (clear_later planned room.0 t plan room.1 all.1))

-- the links for which a tree has room can be put one after another
pub room_clear : (t : Nodes) → IsTree t → (plan : List Planned) → HaveRoom t plan → are_clear t plan ≡ true
room_clear t tree plan room = clear_in_turn t plan t room (all_clear t tree plan room)

pub links_clear : (what : Analyses) (t : Nodes) (places : List Place) → HaveNames what → IsTree t → are_dirs t places ≡ true → are_clear t (links what t places) ≡ true
links_clear what t places named tree dirs = room_clear t tree (links what t places) (have_room what named t tree places dirs)
