-- The children of a directory, with their nodes.
use Rattle.std.proofs.Common.{◌≡◌, ℕ, Bool, true, List, [], ◌∷◌, map, refl, ap, sym, ◌∙◌, Option, Some, None}
use Rattle.std.proofs.lemmas.Bool.{and_parts}
use Rattle.std.specs.List.{AllByRecursion, cons_option, dedup, filter_map, list_all}
use Rattle.std.specs.Str.{bytes_eq}
use Rattle.hwcap_dirs.proofs.Children.{children_named}
use Rattle.lib_types.specs.Name.{is_name}
use Rattle.path_walk.proofs.KindsAt.{absent_else, kind_of_node}
use Rattle.path_walk.specs.Files.{is_file}
use Rattle.image_tree.proofs.Above.{found_entry}
use Rattle.image_tree.specs.Paths.{join}
use Rattle.image_tree.specs.Tree.{Nodes, IsTree, children_of, kind_at, kind_of, listing_of, names_below, node_at, of_dir}
use Rattle.image_tree.specs.declared.node.Node.{Node}
use Rattle.image_tree.specs.declared.node.Node.TheVariants as node
use Rattle.image_tree.specs.declared.tree.Kind.{Kind}
use Rattle.image_tree.specs.declared.tree.Kind.TheVariants as kinds
use Rattle.library_files.specs.Children.{IsChild, is_file_node}

-- ---- the kind of a path, given its node

-- if directories and absent paths fail a test of kinds, the test of a path's kind gives the same as the test of its node
module _ (f : Kind → Bool) (g : Option Node → Bool) (dir : f kinds.Dir ≡ g None) (absent : f kinds.Absent ≡ g None) (some : (n : Node) → f (kind_of n) ≡ g (Some n)) (t : Nodes) (tree : IsTree t) (q : List ℕ) where
  without : node_at t q ≡ None → (k : Kind) → kind_at t q ≡ k → f k ≡ g None
  without e kinds.Dir h = dir
  without e kinds.Absent h = absent
  without e kinds.File h = let z : kinds.Absent ≡ kinds.File = sym (absent_else t q e (λ d. let y : kinds.Dir ≡ kinds.File = sym d ∙ h in absurd (cc))) ∙ h in absurd (cc)
  without e kinds.Link h = let z : kinds.Absent ≡ kinds.Link = sym (absent_else t q e (λ d. let y : kinds.Dir ≡ kinds.Link = sym d ∙ h in absurd (cc))) ∙ h in absurd (cc)

  by_node : (o : Option Node) → node_at t q ≡ o → f (kind_at t q) ≡ g o
  by_node (Some n) e = ap f (kind_of_node t q n (and_parts _ _ (found_entry t q n tree.entries e)).0 e) ∙ some n
  by_node None e = without e (kind_at t q) refl

file_node : (n : Node) → is_file (kind_of n) ≡ is_file_node (Some n)
file_node node.Dir = refl
file_node (node.File key id) = refl
file_node (node.Link target) = refl

-- a path is a file if its node is a file
pub file_there : (t : Nodes) → IsTree t → (path : List ℕ) → is_file (kind_at t path) ≡ is_file_node (node_at t path)
file_there t tree path = by_node is_file is_file_node refl refl file_node t tree path (node_at t path) refl

-- ---- the whole listing

module _ {Y : Type 0} (t : Nodes) (folder : List ℕ) (f : List ℕ × Option Node → Option Y) (g : List ℕ → Option Y) (same : (name : List ℕ) → f (name, node_at t (join folder name)) ≡ g name) where
  all_same : (names : List (List ℕ)) → filter_map f (map (λ name. (name, node_at t (join folder name))) names) ≡ filter_map g names
  all_same [] = refl
  all_same (name ∷ names) = ap (λ o. cons_option o (filter_map f (map (λ name. (name, node_at t (join folder name))) names))) (same name) ∙ ap (cons_option (g name)) (all_same names)

pub names_listed : {Y : Type 0} (t : Nodes) (folder : List ℕ) (g : List ℕ → Option Y) → filter_map (λ child. g child.0) (listing_of t folder) ≡ filter_map g (children_of t folder)
names_listed t folder g = all_same t folder (λ child. g child.0) g (λ name. refl) (children_of t folder)

module _ (t : Nodes) (tree : IsTree t) (folder : List ℕ) where
  all_from : (names : List (List ℕ)) → kind_at t folder ≡ kinds.Dir → list_all is_name names ≡ true
      → AllByRecursion (IsChild t folder) (map (λ name. (name, node_at t (join folder name))) names)
  all_from [] dir named = tt
  all_from (name ∷ names) dir named =
      let parts = and_parts (is_name name) (list_all is_name names) named in
      (record { tree = tree; dir = dir; name = parts.0; node = refl }, all_from names dir parts.1)

  pub all_children : AllByRecursion (IsChild t folder) (listing_of t folder)
  all_children = by (kind_at t folder) refl (children_named t folder tree.entries)
    where
      by : (kind : Kind) → kind_at t folder ≡ kind → list_all is_name (of_dir kind (dedup bytes_eq (names_below t folder))) ≡ true
          → AllByRecursion (IsChild t folder) (map (λ name. (name, node_at t (join folder name))) (of_dir kind (dedup bytes_eq (names_below t folder))))
      by kinds.Dir dir named = all_from (dedup bytes_eq (names_below t folder)) dir named
      by kinds.Absent dir named = tt
      by kinds.File dir named = tt
      by kinds.Link dir named = tt
