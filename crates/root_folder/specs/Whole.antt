-- The tree of a directory on a file system, in which every directory has a node.
use Rattle.std.specs.Prelude.{◌≡◌, ◌&&◌, ◌||◌, Bool, true, false, ℕ, List, Some, None}
use Rattle.std.specs.List.{list_all}
use Rattle.std.specs.Option.{option_map_or}
use Rattle.std.specs.Str.{bytes_eq}
use Rattle.image_tree.specs.Node.{is_dir}
use Rattle.image_tree.specs.Paths.{root}
use Rattle.image_tree.specs.Tree.{Nodes, IsPathSorted, is_entry, node_at}
use Rattle.image_tree.specs.declared.node.Node.TheVariants.{Dir, File, Link}
use Rattle.path_walk.specs.Names.{parent}
use Rattle.root_folder.specs.Found.{Found}

-- the root is a directory, and so is a path whose node is a directory
abbrev pub has_dir : Nodes → List ℕ → Bool
has_dir t dir = bytes_eq dir root || option_map_or is_dir (node_at t dir) false

-- each node is in a directory
abbrev pub are_in_dirs : Nodes → Bool
are_in_dirs t = list_all (λ e. has_dir t (parent e.0)) t

pub record IsWhole (t : Nodes) : Type 0 where
  pub sorted : IsPathSorted t
  pub entries : list_all is_entry t ≡ true
  pub dirs : are_in_dirs t ≡ true

-- the path is directly in the directory
abbrev pub is_in : List ℕ → List ℕ → Bool
is_in dir path = bytes_eq (parent path) dir

-- the path is unused, or a link is there
abbrev pub is_free : Found → Bool
is_free None = true
is_free (Some Dir) = false
is_free (Some (File key id)) = false
is_free (Some (Link target)) = true

-- a link may be made at the path
abbrev pub can_link : Nodes → List ℕ → Bool
can_link t path = has_dir t (parent path) && is_free (node_at t path)
