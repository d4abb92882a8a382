-- What a command that only asks reads of a directory: its tree, and then its cache (readdir(3), lstat(2), ld.so(8)).
use Rattle.std.specs.Prelude.{◌≡◌, Result, Ok, Err}
use Rattle.image_session.specs.Reading.{ReadsContent}
use Rattle.image_session.specs.declared.fault.SlotFault.{SlotFault}
use Rattle.image_session.specs.declared.reading.ReadImage.{ReadImage}
use Rattle.image_tree.specs.Tree.{Nodes}
use Rattle.root_asking.specs.declared.fault.ReadFault.{ReadFault}
use Rattle.root_asking.specs.declared.fault.ReadFault.TheVariants as faults
use Rattle.root_folder.specs.Folder.{FolderState}
use Rattle.root_tree.specs.ReadTree.{ReadsTree}
use Rattle.root_tree.specs.declared.fault.TreeRead.{TreeRead}
use Rattle.tree_face.specs.Disk.{DiskState}
use Rattle.tree_face.specs.declared.disk.Slot.TheVariants.{Cache}

-- the tree of the directory and its cache are read
pub record ReadsBoth (image : ReadImage) (before after : FolderState) (old new : DiskState) : Type 0 where
  pub tree : ReadsTree (Ok image.tree) before after
  pub cache : ReadsContent Cache (Ok image.cache) old new

-- the tree is read, but the cache can't be
pub record ReadsNoCache (fault : SlotFault) (before after : FolderState) (old new : DiskState) : Type 0 where
  pub nodes : Nodes
  pub tree : ReadsTree (Ok nodes) before after
  pub cache : ReadsContent Cache (Err fault) old new

-- the tree can't be read, so the cache isn't read
pub record ReadsNoTree (fault : TreeRead) (before after : FolderState) (old new : DiskState) : Type 0 where
  pub tree : ReadsTree (Err fault) before after
  pub cache : new ≡ old

-- If the tree can't be read, the cache isn't read. Nothing is written.
abbrev pub ReadsRoot : Result ReadImage ReadFault → FolderState → FolderState → DiskState → DiskState → Type 0
ReadsRoot (Ok image) before after old new = ReadsBoth image before after old new
ReadsRoot (Err (faults.Cache fault)) before after old new = ReadsNoCache fault before after old new
ReadsRoot (Err (faults.Tree fault)) before after old new = ReadsNoTree fault before after old new
