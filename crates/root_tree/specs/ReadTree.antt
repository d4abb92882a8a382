-- The tree of a directory, read by listing each directory and looking at each name (readdir(3), lstat(2)).
use Rattle.std.specs.Prelude.{◌≡◌, ◌<◌, ◌+◌, ℕ, List, if◌then◌else◌, length, Result, IfErr, IfOk, IsErrOf, OnOk}
use Rattle.std.specs.List.{sum_by}
use Rattle.std.specs.Map.{values_of}
use Rattle.lib_types.specs.Counts.{raised, HasRisen}
use Rattle.image_tree.specs.Node.{is_dir}
use Rattle.image_tree.specs.Tree.{Nodes}
use Rattle.image_tree.specs.declared.node.Node.{Node}
use Rattle.image_tree.specs.declared.tree.TheConstants.{NODES_MAX}
use Rattle.root_folder.specs.Folder.{FolderState, HasNoFault, KeepsFolder}
use Rattle.root_folder.specs.declared.folder.FolderCounts.{FolderCounts}
use Rattle.root_folder.specs.declared.folder.FolderRead.{FolderRead}
use Rattle.root_folder.specs.declared.folder.FolderRead.TheVariants as folder
use Rattle.root_tree.specs.declared.fault.TreeRead.{TreeRead}
use Rattle.root_tree.specs.declared.fault.TreeRead.TheVariants.{Failed, TooLarge, NoMemory}
use Rattle.tree_face.specs.Known.{IfKnown}

-- ---- faults

-- the error of a call on a path
abbrev pub of_read : FolderRead → List ℕ → TreeRead
of_read folder.Failed at = Failed at
of_read folder.NoMemory at = NoMemory

-- why no tree is returned: a call failed and the fault counts rose, or no call failed and the fault counts are the same
abbrev pub HasCause : TreeRead → FolderState → FolderState → Type 0
HasCause (Failed at) old new = HasRisen old.faults new.faults × HasRisen old.read_faults new.read_faults
HasCause TooLarge old new = HasNoFault old new
HasCause NoMemory old new = HasNoFault old new

-- ---- the state after a reading

-- no link is made, and no directory is synced
pub record KeepsMade (a b : FolderCounts) : Type 0 where
  pub links : b.links ≡ a.links
  pub settles : b.settles ≡ a.settles

-- only counts change, and no call fails
pub record HasRead (old new : FolderState) : Type 0 where
  pub keeps : KeepsFolder old new
  pub made : KeepsMade old.counts new.counts
  pub no_fault : HasNoFault old new

-- only counts change
pub record ReadsOn {A : Type 0} (result : Result A TreeRead) (old new : FolderState) : Type 0 where
  pub keeps : KeepsFolder old new
  pub made : KeepsMade old.counts new.counts
  pub done : OnOk result (HasNoFault old new)
  pub failed : IfErr result (λ fault. HasCause fault old new)

-- ---- the whole tree

abbrev pub count_dir : Node → ℕ
count_dir node = if is_dir node then 1 else 0

-- how many of the nodes are directories
abbrev pub dirs_in : Nodes → ℕ
dirs_in t = sum_by count_dir (values_of t)

abbrev pub IsTooLarge : FolderState → Type 0
IsTooLarge s = IfKnown s.contents (λ c. NODES_MAX < length c.now)

-- The tree of the directory is read. The root and each directory of the tree are listed once.
pub record ReadsTree (result : Result Nodes TreeRead) (old new : FolderState) : Type 0 where
  pub tree : IfOk result (λ tree. IfKnown old.contents (λ c. tree ≡ c.now))
  pub lists : IfOk result (λ tree. new.counts.lists ≡ raised old.counts.lists (1 + dirs_in tree))
  pub too_large : IsErrOf result TooLarge → IsTooLarge old
  pub reads : ReadsOn result old new
