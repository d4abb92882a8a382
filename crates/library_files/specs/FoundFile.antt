-- Files of a tree, each with its key and its identity in the tree.
use Rattle.std.specs.Prelude.{◌≡◌, ℕ, List, map, Option, Some}
use Rattle.std.specs.Cmp.{IsTotalOrder, on_total}
use Rattle.std.specs.Cmp.Lexicographic.{nat_list_cmp_total, slice_cmp}
use Rattle.std.specs.List.{AllByRecursion}
use Rattle.std.specs.Ordering.{nat_cmp, on}
use Rattle.std.specs.declared.cmp.Ordering.{Ordering}
use Rattle.image_tree.specs.Tree.{Nodes, node_at}
use Rattle.image_tree.specs.declared.node.Id.{Id}
use Rattle.image_tree.specs.declared.node.Node.TheVariants.{File}

pub record FoundFile : Type 0 where
  pub path : List ℕ
  pub key : List ℕ
  pub id : Option Id

abbrev pub path_of : FoundFile → List ℕ
path_of file = file.path

abbrev pub paths_of : List FoundFile → List (List ℕ)
paths_of files = map path_of files

-- the tree has this file
abbrev pub IsFileOf : Nodes → FoundFile → Type 0
IsFileOf t file = node_at t file.path ≡ Some (File file.key file.id)

abbrev pub AreFilesOf : Nodes → List FoundFile → Type 0
AreFilesOf t files = AllByRecursion (IsFileOf t) files

-- files are sorted by their paths
abbrev pub path_order : FoundFile → FoundFile → Ordering
path_order = on path_of (slice_cmp nat_cmp)

pub path_order-total : IsTotalOrder path_order
path_order-total = on_total path_of nat_list_cmp_total
