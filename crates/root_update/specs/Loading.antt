-- What an update of a directory works on: its tree, and the stamps of the auxiliary cache if it is used (ldconfig(8): -r, -i).
use Rattle.std.specs.Prelude.{◌≡◌, false, Option, None, Result, Ok, Err}
use Rattle.aux_cache.specs.Stamps.{AreRecordable}
use Rattle.image_session.specs.Aux.{damage_of_slot, stamps_of_slot}
use Rattle.image_session.specs.Reading.{ReadsContent}
use Rattle.image_session.specs.Session.{Loaded, image_with}
use Rattle.image_session.specs.declared.fault.SlotFault.{SlotFault}
use Rattle.image_tree.specs.Tree.{Nodes}
use Rattle.root_tree.specs.ReadTree.{ReadsTree}
use Rattle.root_tree.specs.declared.fault.TreeRead.{TreeRead}
use Rattle.root_update.specs.declared.fault.RootFault.{RootFault}
use Rattle.root_update.specs.declared.fault.RootFault.TheVariants as faults
use Rattle.root_update.specs.declared.parts.AuxUse.{AuxUse}
use Rattle.root_update.specs.declared.parts.AuxUse.TheVariants.{Unused, Replaced, Updated}
use Rattle.root_update.specs.declared.stamps.AuxStamps.{AuxStamps}
use Rattle.root_writes.specs.Writing.{States}
use Rattle.tree_face.specs.Disk.{Content, DiskContent, DiskState}
use Rattle.tree_face.specs.Known.{IfKnown}
use Rattle.tree_face.specs.declared.disk.Slot.TheVariants.{Aux}

-- ---- the auxiliary cache

-- The auxiliary cache is read and has this content. If it isn't used, it isn't read and counts as missing.
abbrev pub UsesAux : AuxUse → Content → DiskState → DiskState → Type 0
UsesAux Unused aux old new = (aux ≡ None) × (new ≡ old)
UsesAux Replaced aux old new = (aux ≡ None) × (new ≡ old)
UsesAux Updated aux old new = ReadsContent Aux (Ok aux) old new

-- The auxiliary cache is used, but reading it fails.
abbrev pub FailsToUseAux : AuxUse → SlotFault → DiskState → DiskState → Type 0
FailsToUseAux Unused fault old new = ⊥
FailsToUseAux Replaced fault old new = ⊥
FailsToUseAux Updated fault old new = ReadsContent Aux (Err fault) old new

-- a property of the auxiliary cache that is used, if the contents are known
abbrev pub IfAux : AuxUse → Option DiskContent → (Content → Type 0) → Type 0
IfAux Unused known P = P None
IfAux Replaced known P = P None
IfAux Updated known P = IfKnown known (λ c. P c.now.aux)

-- ---- the image

-- the image of the directory: its tree, with the stamps of the auxiliary cache
pub record LoadsRoot (how : AuxUse) (image : Loaded) (old new : States) : Type 0 where
  pub tree_is : ReadsTree (Ok image.tree) old.folder new.folder
  pub aux : Content
  pub aux_is : UsesAux how aux old.disk new.disk
  pub is : image ≡ image_with image.tree aux

-- the tree can't be read
pub record ReadsNoTree (how : AuxUse) (fault : TreeRead) (old new : States) : Type 0 where
  pub tree : ReadsTree (Err fault) old.folder new.folder
  pub aux : Content
  pub aux_is : UsesAux how aux old.disk new.disk

-- the auxiliary cache can't be read, and the directory isn't looked at
pub record ReadsNoAux (how : AuxUse) (fault : SlotFault) (old new : States) : Type 0 where
  pub slot : FailsToUseAux how fault old.disk new.disk
  pub folder : new.folder ≡ old.folder

-- ---- what private functions say

-- the information in this auxiliary cache: its stamps, and the offset where it is malformed
pub record IsLoadedFrom (aux : Content) (read : AuxStamps) : Type 0 where
  pub stamps : read.stamps ≡ stamps_of_slot aux
  pub damaged : read.damaged ≡ damage_of_slot aux
  pub recordable : AreRecordable read.stamps

abbrev pub ReadsAux : AuxUse → Result AuxStamps SlotFault → DiskState → DiskState → Type 0
ReadsAux how (Ok read) old new = (aux : Content) × (IsLoadedFrom aux read × UsesAux how aux old new)
ReadsAux how (Err fault) old new = FailsToUseAux how fault old new

-- the image of this tree and these stamps, without edits
abbrev pub root_image : Nodes → AuxStamps → Loaded
root_image tree read = record { tree = tree; stamps = read.stamps; edited = false; damaged = read.damaged }

-- the image that is read, or the fault
abbrev pub IsRead : AuxUse → Result Loaded RootFault → States → States → Type 0
IsRead how (Ok image) old new = LoadsRoot how image old new
IsRead how (Err (faults.Tree fault)) old new = ReadsNoTree how fault old new
IsRead how (Err (faults.Slot fault)) old new = ReadsNoAux how fault old new
IsRead how (Err (faults.Update fault)) old new = ⊥
IsRead how (Err (faults.Write fault)) old new = ⊥
