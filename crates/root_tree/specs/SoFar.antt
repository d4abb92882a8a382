-- The contracts of private functions about a tree that is being read.
use Rattle.std.specs.Prelude.{◌≡◌, ◌⊎◌, ◌≤◌, ◌+◌, ◌-◌, ◌++◌, ◌∷◌, [], ◌&&◌, ◌||◌, ℕ, Bool, true, false, List, if◌then◌else◌, fold, length, Option, Some, None, Result, IfErr, OnOk, is_none}
use Rattle.std.specs.List.{list_any}
use Rattle.std.specs.Str.{bytes_eq}
use Rattle.image_tree.specs.Node.{is_dir, is_node}
use Rattle.image_tree.specs.Paths.{is_path, join}
use Rattle.image_tree.specs.Tree.{Nodes, IsFullFor, children_of, clashes, node_at, put}
use Rattle.image_tree.specs.declared.node.Node.{Node}
use Rattle.path_walk.specs.Names.{last, parent}
use Rattle.root_folder.specs.Folder.{FolderState, HasNoFault, KeepsFolder}
use Rattle.root_folder.specs.Whole.{has_dir}
use Rattle.root_folder.specs.declared.folder.FolderRead.{FolderRead}
use Rattle.lib_types.specs.Counts.{raised}
use Rattle.root_tree.specs.ReadTree.{HasCause, HasRead, KeepsMade, dirs_in, of_read}
use Rattle.root_tree.specs.declared.fault.TreeRead.{TreeRead}
use Rattle.root_tree.specs.declared.fault.TreeRead.TheVariants.{Failed, TooLarge, NoMemory}
use Rattle.tree_face.specs.Known.{IfKnown}

-- ---- one path

-- the tree so far, and the directories that are still to be listed
pub record SoFar : Type 0 where
  pub tree : Nodes
  pub todo : List (List ℕ)

abbrev pub so_far : Nodes → List (List ℕ) → SoFar
so_far tree todo = record { tree = tree; todo = todo }

-- the path and the node are valid, and the tree has no node at the path yet
pub record IsNew (t : Nodes) (path : List ℕ) (node : Node) : Type 0 where
  pub is_at_path : is_path path ≡ true
  pub valid : is_node node ≡ true
  pub free : node_at t path ≡ None

-- what is at a path of the tree, if the part has no node there
abbrev pub new_at : Nodes → Nodes → List ℕ → Option Node
new_at t part path = if is_path path && is_none (node_at part path) then node_at t path else None

abbrev pub dirs_with : List ℕ → Node → List (List ℕ)
dirs_with path node = if is_dir node then path ∷ [] else []

-- adds a node, unless it clashes with the other nodes
abbrev pub with_node : SoFar → List ℕ → Node → SoFar
with_node s path node = if clashes s.tree path node then s else so_far (put s.tree path node) (s.todo ++ dirs_with path node)

abbrev pub with_found : SoFar → List ℕ → Option Node → SoFar
with_found s path (Some node) = with_node s path node
with_found s path None = s

-- adds what is at a name of a directory
abbrev pub seen : Nodes → List ℕ → SoFar → List ℕ → SoFar
seen t dir s name = with_found s (join dir name) (new_at t s.tree (join dir name))

-- adds everything in a directory
unfoldable pub listed : Nodes → List ℕ → SoFar → SoFar
listed t dir s = fold (seen t dir) s (children_of t dir)

-- ---- counts

-- each added node that is a directory is still to be listed
pub record Grows (old new : SoFar) : Type 0 where
  pub dirs : length new.todo + dirs_in old.tree ≡ length old.todo + dirs_in new.tree
  pub nodes : length new.todo + length old.tree ≤ length old.todo + length new.tree

-- ---- what was read of a known tree

-- each node of the part is a node of the tree
abbrev pub IsPart : Nodes → Nodes → Type 0
IsPart t part = (q : List ℕ) (n : Node) → node_at part q ≡ Some n → node_at t q ≡ Some n

-- the path is in a directory that is still to be listed
abbrev pub is_todo : List (List ℕ) → List ℕ → Bool
is_todo todo q = list_any (bytes_eq (parent q)) todo

-- the path is in this directory and has one of these names
abbrev pub is_named : List ℕ → List (List ℕ) → List ℕ → Bool
is_named dir names q = bytes_eq (parent q) dir && list_any (bytes_eq (last q)) names

-- If the part has a node's directory, the part has the node too. The exceptions are nodes in directories that are still to be listed, and
-- nodes in `dir` with one of these names.
pub record IsReadIn (t : Nodes) (s : SoFar) (dir : List ℕ) (names : List (List ℕ)) : Type 0 where
  pub part : IsPart t s.tree
  pub read : (q : List ℕ) (n : Node) → node_at t q ≡ Some n → has_dir s.tree (parent q) ≡ true
      → (node_at s.tree q ≡ Some n) ⊎ ((is_todo s.todo q || is_named dir names q) ≡ true)

abbrev pub IsReadBut : Nodes → SoFar → Type 0
IsReadBut t s = IsReadIn t s [] []

-- the tree has a node at the path, and the part has no room for it
pub record IsFullAt (t part : Nodes) (path : List ℕ) : Type 0 where
  pub node : Node
  pub there : node_at t path ≡ Some node
  pub full : IsFullFor part path node

-- ---- calls

-- an error that doesn't come from a call
abbrev pub is_of_adding : TreeRead → Bool
is_of_adding (Failed at) = false
is_of_adding TooLarge = true
is_of_adding NoMemory = true

-- an error that a call can return
abbrev pub is_of_call : TreeRead → Bool
is_of_call (Failed at) = true
is_of_call TooLarge = false
is_of_call NoMemory = true

-- if each node of the part is a node of the known tree
abbrev pub IfPart : FolderState → Nodes → Type 0 → Type 0
IfPart s part P = IfKnown s.contents (λ c. IsPart c.now part) → P

-- in the listing of a directory, adding the remaining names gives the whole result
pub record IsListing (dir : List ℕ) (names left : List (List ℕ)) (start here : SoFar) (old new : FolderState) : Type 0 where
  pub seen_all : IfKnown old.contents (λ c. fold (seen c.now dir) here left ≡ fold (seen c.now dir) start names)
  pub part : IfKnown old.contents (λ c. IsPart c.now start.tree → IsPart c.now here.tree)
  pub grows : Grows start here
  pub reads : HasRead old new
  pub lists : new.counts.lists ≡ raised old.counts.lists 1

-- the directories that were listed and the directories still to be listed are the root and all directories of the tree so far
pub record IsReading (s : SoFar) (old new : FolderState) : Type 0 where
  pub read : IfKnown old.contents (λ c. IsReadBut c.now s)
  pub few : length s.todo ≤ 1 + dirs_in s.tree
  pub lists : new.counts.lists ≡ raised old.counts.lists (1 + dirs_in s.tree - length s.todo)
  pub reads : HasRead old new

-- at most one path is looked up
pub record LooksNew {A : Type 0} (result : Result A FolderRead) (old new : FolderState) : Type 0 where
  pub keeps : KeepsFolder old new
  pub made : KeepsMade old.counts new.counts
  pub lists : new.counts.lists ≡ old.counts.lists
  pub done : OnOk result (HasNoFault old new)
  pub failed : IfErr result (λ fault. (at : List ℕ) → HasCause (of_read fault at) old new)
