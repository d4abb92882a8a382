-- A name in a directory, with its node.
use Rattle.std.specs.Prelude.{◌≡◌, ℕ, Bool, true, false, List, if◌then◌else◌, Option, Some, None}
use Rattle.lib_types.specs.Name.{is_name}
use Rattle.name_order.specs.LibraryName.{is_library_name}
use Rattle.image_tree.specs.Paths.{join}
use Rattle.image_tree.specs.Tree.{Nodes, IsTree, kind_at, node_at}
use Rattle.image_tree.specs.declared.node.Node.{Node}
use Rattle.image_tree.specs.declared.node.Node.TheVariants as node
use Rattle.image_tree.specs.declared.tree.Kind.TheVariants.{Dir}
use Rattle.library_files.specs.FoundFile.{FoundFile}

-- the directory has this name, with this node
pub record IsChild (t : Nodes) (folder : List ℕ) (child : List ℕ × Option Node) : Type 0 where
  pub tree : IsTree t
  pub dir : kind_at t folder ≡ Dir
  pub name : is_name child.0 ≡ true
  pub node : child.1 ≡ node_at t (join folder child.0)

abbrev pub is_file_node : Option Node → Bool
is_file_node (Some (node.File key id)) = true
is_file_node (Some (node.Link target)) = false
is_file_node (Some node.Dir) = false
is_file_node None = false

-- the file at a path with this node, if the node is a file
abbrev pub file_with : List ℕ → Option Node → Option FoundFile
file_with path (Some (node.File key id)) = Some (record { path = path; key = key; id = id })
file_with path (Some (node.Link target)) = None
file_with path (Some node.Dir) = None
file_with path None = None

-- the file of a child, if the child is a file with a library name
abbrev pub found_of : List ℕ → List ℕ × Option Node → Option FoundFile
found_of folder child = if is_library_name child.0 then file_with (join folder child.0) child.1 else None

-- the file at a path, if there is one
abbrev pub file_there : Nodes → List ℕ → Option FoundFile
file_there t path = file_with path (node_at t path)
