-- The tree of an image: nodes by their paths.
use Rattle.std.specs.Prelude.{◌≡◌, ℕ, ◌≤◌, Bool, true, false, List, [], map, Option, Some, None, ◌==◌, ◌&&◌, ◌||◌, not, if◌then◌else◌, IsTrue, length}
use Rattle.std.specs.List.{list_any, list_all, filter, dedup}
use Rattle.std.specs.List.Sorted.{IsStrictlySortedBy}
use Rattle.std.specs.Option.{is_some}
use Rattle.std.specs.Str.{bytes_eq}
use Rattle.std.specs.BTreeMap.{insert_entry, is_at}
use Rattle.std.specs.Map.{keys_of, lookup, remove_entry}
use Rattle.image_tree.specs.Node.{is_node, is_dir}
use Rattle.image_tree.specs.Paths.{root, is_path, path_cmp, folder, join, is_below, name_after}
use Rattle.image_tree.specs.declared.node.Node.{Node}
use Rattle.image_tree.specs.declared.tree.TheConstants.{NODES_MAX}
use Rattle.image_tree.specs.declared.node.Node.TheVariants as node
use Rattle.image_tree.specs.declared.tree.Kind.{Kind}
use Rattle.image_tree.specs.declared.tree.Kind.TheVariants as kind

-- the paths and nodes of a tree
abbrev pub Nodes : Type 0
Nodes = List (List ℕ × Node)

-- each path comes before those after it
abbrev pub IsPathSorted : Nodes → Type 0
IsPathSorted t = IsStrictlySortedBy path_cmp (keys_of t)

-- the tree with the node at the path, in place of a previous one
abbrev pub put : Nodes → List ℕ → Node → Nodes
put t path node = insert_entry path_cmp t path node

-- the tree without the node at the path
abbrev pub remove : Nodes → List ℕ → Nodes
remove t path = remove_entry (is_at (path_cmp path)) t

abbrev pub node_at : Nodes → List ℕ → Option Node
node_at t path = lookup (is_at (path_cmp path)) t

-- something lies below the path
abbrev pub has_below : Nodes → List ℕ → Bool
has_below t path = list_any (λ e. is_below path e.0) t

-- the entry is a file or link above the path, or the node is a file or link and the entry lies below it
abbrev pub clash_with : List ℕ → Node → List ℕ × Node → Bool
clash_with path node e = (is_below e.0 path && not (is_dir e.1)) || (not (is_dir node) && is_below path e.0)

-- a file or link would have something below it
abbrev pub clashes : Nodes → List ℕ → Node → Bool
clashes t path node = list_any (clash_with path node) t

-- the path is new, and the tree has NODES_MAX nodes
abbrev pub has_no_room : Nodes → List ℕ → Bool
has_no_room t path = not (is_some (node_at t path)) && (length t == NODES_MAX)

-- the node doesn't clash, but the tree is full
abbrev pub IsFullFor : Nodes → List ℕ → Node → Type 0
IsFullFor t path node = (clashes t path node ≡ false) × IsTrue (has_no_room t path)

abbrev pub kind_of : Node → Kind
kind_of node.Dir = kind.Dir
kind_of (node.File key id) = kind.File
kind_of (node.Link target) = kind.Link

-- a path without a node is a directory if something lies below it
abbrev pub kind_there : Option Node → Bool → Kind
kind_there (Some node) below = kind_of node
kind_there None true = kind.Dir
kind_there None false = kind.Absent

abbrev pub kind_at : Nodes → List ℕ → Kind
kind_at t path =
    if bytes_eq path root then kind.Dir else
    if is_path path then kind_there (node_at t path) (has_below t path) else kind.Absent

-- only a directory has children
abbrev pub of_dir : Kind → List (List ℕ) → List (List ℕ)
of_dir kind.Dir names = names
of_dir kind.Absent names = []
of_dir kind.File names = []
of_dir kind.Link names = []

-- the name that follows the directory in each path below it
abbrev pub names_below : Nodes → List ℕ → List (List ℕ)
names_below t path = map (λ e. name_after (length (folder path)) e.0) (filter (λ e. is_below path e.0) t)

-- The names directly below a directory, each once. The paths with the same name are adjacent.
abbrev pub children_of : Nodes → List ℕ → List (List ℕ)
children_of t path = of_dir (kind_at t path) (dedup bytes_eq (names_below t path))

-- the names directly below a directory, each with its node if it has one
abbrev pub listing_of : Nodes → List ℕ → List (List ℕ × Option Node)
listing_of t path = map (λ name. (name, node_at t (join path name))) (children_of t path)

abbrev pub is_entry : List ℕ × Node → Bool
is_entry e = is_path e.0 && is_node e.1

-- a valid tree: sorted valid nodes, at most 2^20, and nothing lies below a file or link
pub record IsTree (t : Nodes) : Type 0 where
  pub sorted : IsPathSorted t
  pub entries : list_all is_entry t ≡ true
  pub few : length t ≤ NODES_MAX
  pub clear : list_all (λ e. not (clashes t e.0 e.1)) t ≡ true
