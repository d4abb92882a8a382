-- What was looked at of a directory: the paths that were looked up, with the nodes that were found there, and the directories that were
-- listed, with the names in them (readdir(3), lstat(2)).
use Rattle.std.specs.Prelude.{◌≡◌, ℕ, Bool, true, false, List, [], unwrap_or}
use Rattle.std.specs.List.{list_any}
use Rattle.std.specs.Str.{bytes_eq}
use Rattle.std.specs.Map.{keys_of, lookup}
use Rattle.image_tree.specs.Tree.{Nodes}
use Rattle.image_tree.specs.declared.tree.Kind.{Kind}
use Rattle.image_tree.specs.declared.tree.Kind.TheVariants as kinds
use Rattle.root_folder.specs.Folder.{FolderState}
use Rattle.root_tree.specs.ReadTree.{HasRead}
use Rattle.seen_tree.specs.Part.{KeepsNodes}
use Rattle.seen_tree.specs.Seen.{AreNamesOf, IsSeenOf, Lists, ListsMore, Seen, with_dirs, with_paths}
use Rattle.tree_face.specs.Known.{IfKnown}

pub record Looked : Type 0 where
  pub seen : Seen
  pub lists : Lists

abbrev pub looked : Seen → Lists → Looked
looked seen lists = record { seen = seen; lists = lists }

abbrev pub is_dir : Kind → Bool
is_dir kinds.Dir = true
is_dir kinds.Absent = false
is_dir kinds.File = false
is_dir kinds.Link = false

-- the directory was listed
abbrev pub is_listed : Lists → List ℕ → Bool
is_listed lists dir = list_any (bytes_eq dir) (keys_of lists)

-- the names in a directory that was listed; none if it wasn't
abbrev pub names_at : Lists → List ℕ → List (List ℕ)
names_at lists dir = unwrap_or (lookup (bytes_eq dir) lists) []

-- a list of paths that depends on the tree
abbrev pub Asked : Type 0
Asked = Nodes → List (List ℕ)

-- what was looked at agrees with the tree
pub record IsLookedOf (t : Nodes) (l : Looked) : Type 0 where
  pub seen : IsSeenOf t l.seen
  pub names : AreNamesOf t l.lists

-- Of these paths and directories all were looked at in addition, except those that are left.
pub record HasLooked (t : Nodes) (old new : Looked) (paths left dirs dirs_left : List (List ℕ)) : Type 0 where
  pub known : IsLookedOf t new
  pub looked : with_paths new.seen.looked left ≡ with_paths old.seen.looked paths
  pub listed : with_dirs (keys_of new.lists) dirs_left ≡ with_dirs (keys_of old.lists) dirs

-- The same, if the content is known. Each new path was looked up by one call, each new directory was listed by one call, and no other call
-- was made. Each node that was found before is still there.
pub record LoadsPart (paths left dirs dirs_left : Asked) (before after : FolderState) (old new : Looked) : Type 0 where
  pub looks : IfKnown before.contents (λ c. IsLookedOf c.now old
      → HasLooked c.now old new (paths c.now) (left c.now) (dirs c.now) (dirs_left c.now))
  pub calls : ListsMore old.seen.looked new.seen.looked (keys_of old.lists) (keys_of new.lists) before after
  pub kept : KeepsNodes old.seen.part new.seen.part
  pub reads : HasRead before after

-- exactly these paths were looked up and exactly these directories were listed in addition
abbrev pub Loads : Asked → Asked → FolderState → FolderState → Looked → Looked → Type 0
Loads paths dirs before after old new = LoadsPart paths (λ t. []) dirs (λ t. []) before after old new

-- The same, if it isn't known which paths and directories: what was looked at still agrees with the tree.
pub record LooksOn (before after : FolderState) (old new : Looked) : Type 0 where
  pub known : IfKnown before.contents (λ c. IsLookedOf c.now old → IsLookedOf c.now new)
  pub calls : ListsMore old.seen.looked new.seen.looked (keys_of old.lists) (keys_of new.lists) before after
  pub kept : KeepsNodes old.seen.part new.seen.part
  pub reads : HasRead before after
