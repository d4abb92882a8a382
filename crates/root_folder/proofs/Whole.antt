-- A tree in which every directory has a node, after a link is added.
use Rattle.std.proofs.Common.{◌≡◌, ℕ, Bool, true, false, ◌||◌, List, [], ◌∷◌, Some, None, Result, Ok, Err, OnOk, OnErr, IfOk, IfSome, refl, ap, sym, subst, ◌∙◌}
use Rattle.std.proofs.lemmas.Bool.{and_from, and_parts, false≢true}
use Rattle.std.proofs.lemmas.Slice.Eq.{bytes_eq-Decides}
use Rattle.std.specs.List.{list_all}
use Rattle.std.specs.Option.{option_map_or}
use Rattle.std.specs.Str.{bytes_eq}
use Rattle.lib_types.proofs.SortedPairs.{by_test}
use Rattle.lib_types.proofs.SortedPairs as pairs
use Rattle.lib_types.specs.declared.fault.NoMemory.{NoMemory}
use Rattle.image_tree.proofs.Above.{found_entry}
use Rattle.image_tree.proofs.Clear.{all_put}
use Rattle.image_tree.proofs.Order.{path_total}
use Rattle.image_tree.specs.Node.{is_dir, is_node, is_target}
use Rattle.image_tree.specs.Paths.{is_path, root}
use Rattle.image_tree.specs.Tree.{Nodes, is_entry, node_at, put}
use Rattle.image_tree.specs.declared.node.Node.TheVariants.{Dir, File, Link}
use Rattle.image_tree.specs.declared.tree.TreeFault.{TreeFault}
use Rattle.path_walk.specs.Names.{parent}
use Rattle.image_tree.proofs.OneMore.{put_other}
use Rattle.root_folder.specs.Found.{Found}
use Rattle.root_folder.specs.Whole.{IsWhole, can_link, has_dir, is_free}

all_of : {X : Type 0} (p q : X → Bool) → ((x : X) → p x ≡ true → q x ≡ true) → (xs : List X) → list_all p xs ≡ true → list_all q xs ≡ true
all_of p q f [] h = refl
all_of p q f (x ∷ xs) h = let parts = and_parts (p x) (list_all p xs) h in and_from _ _ (f x parts.0) (all_of p q f xs parts.1)

no_dir : (found : Found) → is_free found ≡ true → option_map_or is_dir found false ≡ false
no_dir None h = refl
no_dir (Some Dir) h = absurd (false≢true h)
no_dir (Some (File key id)) h = refl
no_dir (Some (Link target)) h = refl

module _ (t : Nodes) (path target : List ℕ) (room : can_link t path ≡ true) where
  abbrev new : Nodes
  new = put t path (Link target)

  -- a directory stays a directory
  dir_kept : (dir : List ℕ) → has_dir t dir ≡ true → has_dir new dir ≡ true
  dir_kept dir h = by_test (bytes_eq dir path)
      (λ e.
      let same : dir ≡ path = (bytes_eq-Decides dir path).0 e in
      let none : option_map_or is_dir (node_at t dir) false ≡ false = ap (λ q. option_map_or is_dir (node_at t q) false) same ∙ no_dir (node_at t path) (and_parts _ _ room).1 in
      by_test (bytes_eq dir root)
      (λ r. ap (λ b. b || option_map_or is_dir (node_at new dir) false) r)
      (λ r. absurd (false≢true (sym (ap (λ b. b || option_map_or is_dir (node_at t dir) false) r ∙ none) ∙ h))))
      (λ e. ap (λ (found : Found). bytes_eq dir root || option_map_or is_dir found false) (put_other path (Link target) dir e t) ∙ h)

  pub whole_put : IsWhole t → is_path path ≡ true → is_target target ≡ true → IsWhole new
  whole_put whole proper valid = record {
    sorted = pairs.sorted_put path_total path t (Link target) whole.sorted;
    entries = all_put is_entry t path (Link target) whole.entries (and_from _ _ proper valid);
    dirs = all_put (λ e. has_dir new (parent e.0)) t path (Link target)
        (all_of (λ e. has_dir t (parent e.0)) (λ e. has_dir new (parent e.0)) (λ e h. dir_kept (parent e.0) h) t whole.dirs)
        (dir_kept (parent path) (and_parts _ _ room).0);
  }

  -- the tree with the link or without it
  pub whole_either : IsWhole t → is_path path ≡ true → is_target target ≡ true → (r : Result (Unit {0}) TreeFault) (after : Nodes)
      → OnOk r (after ≡ new) → OnErr r (after ≡ t) → IsWhole after
  whole_either whole proper valid (Ok x) after done refused = subst IsWhole (sym done) (whole_put whole proper valid)
  whole_either whole proper valid (Err x) after done refused = subst IsWhole (sym refused) whole

-- a node that is found is valid
valid_node : (t : Nodes) (p : List ℕ) (found : Found) → IsWhole t → found ≡ node_at t p → IfSome found (λ node. is_node node ≡ true)
valid_node t p None whole at = tt
valid_node t p (Some node) whole at = (and_parts _ _ (found_entry t p node whole.entries (sym at))).1

pub valid_copy : (t : Nodes) (p : List ℕ) (found : Found) (r : Result Found NoMemory) → IsWhole t → found ≡ node_at t p → IfOk r (λ copy. copy ≡ found)
    → IfOk r (λ copy. IfSome copy (λ node. is_node node ≡ true))
valid_copy t p found (Ok copy) whole at same = valid_node t p copy whole (same ∙ at)
valid_copy t p found (Err e) whole at same = tt
