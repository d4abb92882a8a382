-- A part of a tree, and the paths that a path resolution looks up (path_resolution(7)).
use Rattle.std.specs.Prelude.{◌≡◌, ℕ, zero, suc, Bool, true, List, [], ◌∷◌, ◌++◌, if◌then◌else◌, codes, filter, map, Some, Result, Ok, Err}
use Rattle.std.specs.List.{AllByRecursion, list_all}
use Rattle.std.specs.Str.{bytes_eq}
use Rattle.image_tree.specs.Paths.{components, join, root}
use Rattle.image_tree.specs.Tree.{Nodes, IsPathSorted, children_of, is_entry, kind_at, node_at}
use Rattle.image_tree.specs.declared.node.Node.{Node}
use Rattle.image_tree.specs.declared.tree.Kind.{Kind}
use Rattle.image_tree.specs.declared.tree.Kind.TheVariants as kinds
use Rattle.path_walk.specs.Names.{parent}
use Rattle.path_walk.specs.Walk.{Stop, Ends, Follows, steps}
use Rattle.path_walk.specs.declared.walk.Mode.{Mode}
use Rattle.path_walk.specs.declared.walk.TheConstants.{LINKS_MAX}

-- each node of the part is a node of the tree
pub record IsPart (t part : Nodes) : Type 0 where
  pub sorted : IsPathSorted part
  pub entries : list_all is_entry part ≡ true
  pub nodes : (q : List ℕ) (n : Node) → node_at part q ≡ Some n → node_at t q ≡ Some n

-- at this path, the part and the tree have the same node or both have none
abbrev pub IsSeen : Nodes → Nodes → List ℕ → Type 0
IsSeen t part q = node_at part q ≡ node_at t q

abbrev pub AreSeen : Nodes → Nodes → List (List ℕ) → Type 0
AreSeen t part paths = AllByRecursion (IsSeen t part) paths

-- each node that was there is still there
abbrev pub KeepsNodes : Nodes → Nodes → Type 0
KeepsNodes old new = (q : List ℕ) (n : Node) → node_at old q ≡ Some n → node_at new q ≡ Some n

-- ---- the paths that a path resolution looks up

-- the resolution continues with further names only below a directory
abbrev pub below : Kind → List (List ℕ) → List (List ℕ)
below kinds.Dir more = more
below kinds.Absent more = []
below kinds.File more = []
below kinds.Link more = []

-- the paths that are looked up for these names, starting in a directory, up to the first link that is followed
abbrev pub passed : Nodes → List (List ℕ) → List ℕ → List (List ℕ)
passed t [] place = []
passed t (name ∷ rest) place =
    if bytes_eq name (codes "..") then passed t rest (parent place) else
    join place name ∷ below (kind_at t (join place name)) (passed t rest (join place name))

-- the paths that are looked up while at most `links` more links are followed, and the resolved path
abbrev pub walked : Nodes → Mode → ℕ → Stop → List (List ℕ)
walked t mode links (Ends (Ok place)) = place ∷ []
walked t mode links (Ends (Err fault)) = []
walked t mode zero (Follows names place) = []
walked t mode (suc links) (Follows names place) = passed t names place ++ walked t mode links (steps t mode names place)

-- the paths that are looked up to resolve this text
unfoldable pub looked_by : Nodes → List ℕ → Mode → List (List ℕ)
looked_by t text mode = walked t mode (suc LINKS_MAX) (Follows (components text) root)

-- ---- the paths that a listing looks up

-- a directory, and the paths of its names that pass a test
abbrev pub listed : (List ℕ → Bool) → Nodes → List ℕ → List (List ℕ)
listed test t dir = dir ∷ map (join dir) (filter test (children_of t dir))

abbrev pub if_dir : Kind → List ℕ → List (List ℕ)
if_dir kinds.Dir dir = dir ∷ []
if_dir kinds.Absent dir = []
if_dir kinds.File dir = []
if_dir kinds.Link dir = []

-- the directory itself, if the path is a directory: nothing else is listed
abbrev pub dirs_at : Nodes → List ℕ → List (List ℕ)
dirs_at t dir = if_dir (kind_at t dir) dir
