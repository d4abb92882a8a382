-- The part of a directory that was seen: the paths that were looked up, and the nodes that were found (readdir(3), lstat(2)).
use Rattle.std.specs.Prelude.{◌≡◌, ◌⊎◌, ◌≤◌, ℕ, Bool, List, [], ◌++◌, ◌||◌, not, if◌then◌else◌, fold, length, Option, Some, None}
use Rattle.std.specs.List.{AllByRecursion, filter_map, list_all, list_any}
use Rattle.std.specs.Map.{keys_of}
use Rattle.std.specs.Option.{is_some}
use Rattle.std.specs.Str.{bytes_eq}
use Rattle.indexmap.specs.IndexSet.{insert_key}
use Rattle.lib_types.specs.Counts.{raised}
use Rattle.image_tree.specs.Paths.{is_path}
use Rattle.image_tree.specs.Tree.{Nodes, children_of, clashes, node_at, put}
use Rattle.image_tree.specs.declared.node.Node.{Node}
use Rattle.image_tree.specs.declared.tree.TheConstants.{NODES_MAX}
use Rattle.root_folder.specs.Folder.{FolderState}
use Rattle.root_folder.specs.Whole.{IsWhole}
use Rattle.root_folder.specs.declared.folder.FolderCall.{FolderCall}
use Rattle.root_folder.specs.declared.folder.FolderCall.TheVariants as calls
use Rattle.seen_tree.specs.Part.{AreSeen, IsPart}
use Rattle.tree_face.specs.Follows.{IsFollowedBy}
use Rattle.tree_face.specs.Known.{IfKnown, Relates}

-- the nodes that were found, and the paths that were looked up, each once
pub record Seen : Type 0 where
  pub part : Nodes
  pub looked : List (List ℕ)

abbrev pub seen : Nodes → List (List ℕ) → Seen
seen part looked = record { part = part; looked = looked }

-- the directories that were listed, each once, with the names in them
abbrev pub Lists : Type 0
Lists = List (List ℕ × List (List ℕ))

-- ---- the paths that were looked up

-- adds a path; the root, and a text that isn't a valid path, need not be looked up
abbrev pub with_path : List (List ℕ) → List ℕ → List (List ℕ)
with_path looked path = if is_path path then insert_key bytes_eq looked path else looked

abbrev pub with_paths : List (List ℕ) → List (List ℕ) → List (List ℕ)
with_paths looked paths = fold with_path looked paths

abbrev pub is_looked : List (List ℕ) → List ℕ → Bool
is_looked looked path = not (is_path path) || list_any (bytes_eq path) looked

abbrev pub are_looked : List (List ℕ) → List (List ℕ) → Bool
are_looked looked paths = list_all (is_looked looked) paths

-- adds these directories
abbrev pub with_dirs : List (List ℕ) → List (List ℕ) → List (List ℕ)
with_dirs dirs more = fold (insert_key bytes_eq) dirs more

-- no further path is looked up
abbrev pub IsFull : Seen → Type 0
IsFull s = (NODES_MAX ≤ length s.looked) ⊎ (NODES_MAX ≤ length s.part)

-- adds the node that was found at a path, unless there is one already, or it clashes with the other nodes
abbrev pub with_found : Nodes → List ℕ → Option Node → Nodes
with_found t path (Some node) = if is_some (node_at t path) || clashes t path node then t else put t path node
with_found t path None = t

-- ---- what is known of them

-- the part is a part of a directory's tree, and agrees with the tree at each path that was looked up
pub record IsSeenOf (t : Nodes) (s : Seen) : Type 0 where
  pub whole : IsWhole t
  pub part : IsPart t s.part
  pub nodes : AreSeen t s.part s.looked

-- the names are those of the tree
abbrev pub AreNamesOf : Nodes → Lists → Type 0
AreNamesOf t lists = AllByRecursion (λ e. e.1 ≡ children_of t e.0) lists

-- exactly these paths were looked up in addition
pub record HasSeen (t : Nodes) (old new : Seen) (paths : List (List ℕ)) : Type 0 where
  pub known : IsSeenOf t new
  pub looked : new.looked ≡ with_paths old.looked paths

-- the same, if the content of the directory is known
abbrev pub Sees : FolderState → Seen → Seen → (Nodes → List (List ℕ)) → Type 0
Sees folder old new paths = IfKnown folder.contents (λ c. IsSeenOf c.now old → HasSeen c.now old new (paths c.now))

-- exactly these directories were listed in addition
pub record HasListed (t : Nodes) (old new : Lists) (dirs : List (List ℕ)) : Type 0 where
  pub names : AreNamesOf t new
  pub listed : keys_of new ≡ with_dirs (keys_of old) dirs

-- ---- the calls

abbrev pub path_of : FolderCall → Option (List ℕ)
path_of (calls.Look path) = Some path
path_of (calls.Names dir) = None
path_of (calls.Link tag path target) = None
path_of (calls.Settle dir) = None

abbrev pub dir_of : FolderCall → Option (List ℕ)
dir_of (calls.Names dir) = Some dir
dir_of (calls.Look path) = None
dir_of (calls.Link tag path target) = None
dir_of (calls.Settle dir) = None

-- the paths that these calls looked up, and the directories that they listed
abbrev pub paths_of : List FolderCall → List (List ℕ)
paths_of made = filter_map path_of made

abbrev pub dirs_of : List FolderCall → List (List ℕ)
dirs_of made = filter_map dir_of made

-- these calls were made
pub record Makes (made : List FolderCall) (old new : FolderState) : Type 0 where
  pub calls : Relates (IsFollowedBy made) old.calls new.calls
  pub looks : new.counts.looks ≡ raised old.counts.looks (length (paths_of made))
  pub lists : new.counts.lists ≡ raised old.counts.lists (length (dirs_of made))

-- each new path was looked up by one call, and no directory was listed
pub record LooksMore (before after : List (List ℕ)) (old new : FolderState) : Type 0 where
  pub made : List FolderCall
  pub looked : after ≡ before ++ paths_of made
  pub listed : dirs_of made ≡ []
  pub calls : Makes made old new

-- each new path was looked up by one call, and each new directory was listed by one call
pub record ListsMore (before after dirs dirs_after : List (List ℕ)) (old new : FolderState) : Type 0 where
  pub made : List FolderCall
  pub looked : after ≡ before ++ paths_of made
  pub listed : dirs_after ≡ dirs ++ dirs_of made
  pub calls : Makes made old new
