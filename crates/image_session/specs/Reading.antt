-- Reading the slots of an image, and the tree from its source. All commands read slots in this way.
use Rattle.std.specs.Prelude.{◌≡◌, ◌∷◌, ◌++◌, List, [], Result, Ok, Err, IfOk, ⊤}
use Rattle.std.specs.Result.{result_map_both}
use Rattle.tree_face.specs.declared.disk.Slot.{Slot}
use Rattle.tree_face.specs.declared.disk.Slot.TheVariants as slots
use Rattle.tree_face.specs.Disk.{Content, DiskContent, DiskState, slot_of}
use Rattle.tree_face.specs.DiskUse.{ReadsOnly}
use Rattle.tree_face.specs.Known.{IfKnown}
use Rattle.tree_face.specs.StoreUse.{Ending, Complete, DeviceFailed, GaveUp}
use Rattle.image_tree.specs.Tree.{Nodes}
use Rattle.image_session.specs.Manifest.{Manifest, Empty, Faulty, HasTree, manifest_of}
use Rattle.image_session.specs.declared.fault.LoadFault.{LoadFault}
use Rattle.image_session.specs.declared.fault.LoadFault.TheVariants as faults
use Rattle.image_session.specs.declared.fault.SlotFault.{SlotFault}
use Rattle.image_session.specs.declared.fault.SlotFault.TheVariants as slot_faults
use Rattle.image_session.specs.declared.reading.ReadImage.{ReadImage}
use Rattle.image_session.specs.declared.reading.Stored.{Stored}
use Rattle.image_session.specs.declared.reading.Stored.TheVariants as stored
use Rattle.image_session.specs.declared.reading.TreeSource.{TreeSource}
use Rattle.image_session.specs.declared.reading.TreeSource.TheVariants as sources

-- ---- how a reading ends

abbrev pub load_ending : {A : Type 0} → Result A LoadFault → Ending
load_ending (Ok loaded) = Complete
load_ending (Err faults.NoManifest) = Complete
load_ending (Err (faults.BadManifest fault)) = Complete
load_ending (Err (faults.DiskFailed slot)) = DeviceFailed
load_ending (Err faults.NoMemory) = GaveUp

abbrev pub slot_ending : {A : Type 0} → Result A SlotFault → Ending
slot_ending (Ok content) = Complete
slot_ending (Err (slot_faults.DiskFailed slot)) = DeviceFailed
slot_ending (Err slot_faults.NoMemory) = GaveUp

-- a fact about the slot that couldn't be read
abbrev pub IfSlotFailed : {A : Type 0} → Result A SlotFault → (Slot → Type 0) → Type 0
IfSlotFailed (Err (slot_faults.DiskFailed slot)) P = P slot
IfSlotFailed _ P = ⊤

abbrev pub IfDiskFailed : {A : Type 0} → Result A LoadFault → (Slot → Type 0) → Type 0
IfDiskFailed (Err (faults.DiskFailed slot)) P = P slot
IfDiskFailed _ P = ⊤

-- The slots are read in order. The slots before this one were read, and reading this one failed.
pub record FailsAt (order : List Slot) (old new : DiskState) (slot : Slot) : Type 0 where
  pub before : List Slot
  pub following : List Slot
  pub is_next : order ≡ before ++ slot ∷ following
  pub between : DiskState
  pub read : ReadsOnly before Complete old between
  pub fails : ReadsOnly (slot ∷ []) DeviceFailed between new

-- ---- a slot

-- Only this slot is read, once. If contents are known, the result is the slot's content.
pub record ReadsContent (slot : Slot) (result : Result Content SlotFault) (old new : DiskState) : Type 0 where
  pub content : IfOk result (λ content. IfKnown old.contents (λ known. slot_of known.now slot ≡ content))
  pub fails : IfSlotFailed result (λ failed. failed ≡ slot)
  pub reads : ReadsOnly (slot ∷ []) (slot_ending result) old new

-- ---- the tree

-- the slots that are read for a source, in order
abbrev pub slots_of : TreeSource → List Slot
slots_of sources.Manifest = slots.Manifest ∷ []

-- the stored content of a source
abbrev pub held_by : TreeSource → DiskContent → Stored
held_by sources.Manifest content = stored.Manifest content.now.manifest

-- the manifest in the stored content
abbrev pub says : Stored → Manifest
says (stored.Manifest text) = manifest_of text

-- the tree, or why there is none
abbrev pub IsTreeOf : Manifest → Result Nodes LoadFault → Type 0
IsTreeOf manifest (Ok tree) = manifest ≡ HasTree tree
IsTreeOf manifest (Err faults.NoManifest) = manifest ≡ Empty
IsTreeOf manifest (Err (faults.BadManifest fault)) = manifest ≡ Faulty fault
IsTreeOf manifest (Err (faults.DiskFailed slot)) = ⊤
IsTreeOf manifest (Err faults.NoMemory) = ⊤

pub record ReadsStored (source : TreeSource) (result : Result Stored SlotFault) (old new : DiskState) : Type 0 where
  pub content : IfOk result (λ content. IfKnown old.contents (λ known. held_by source known ≡ content))
  pub fails : IfSlotFailed result (FailsAt (slots_of source) old new)
  pub reads : ReadsOnly (slots_of source) (slot_ending result) old new

-- all slots of the source are read before any is parsed
pub record ReadsTree (source : TreeSource) (result : Result Nodes LoadFault) (old new : DiskState) : Type 0 where
  pub tree : IfKnown old.contents (λ content. IsTreeOf (says (held_by source content)) result)
  pub fails : IfDiskFailed result (FailsAt (slots_of source) old new)
  pub reads : ReadsOnly (slots_of source) (load_ending result) old new

-- ---- the tree and the cache

abbrev pub tree_in : Result ReadImage LoadFault → Result Nodes LoadFault
tree_in result = result_map_both (λ image. image.tree) (λ fault. fault) result

-- Without a tree the Cache slot isn't read.
abbrev pub slots_read : {A : Type 0} → TreeSource → Result A LoadFault → List Slot
slots_read source (Err faults.NoManifest) = slots_of source
slots_read source (Err (faults.BadManifest fault)) = slots_of source
slots_read source _ = slots_of source ++ slots.Cache ∷ []

pub record ReadsImage (source : TreeSource) (result : Result ReadImage LoadFault) (old new : DiskState) : Type 0 where
  pub tree : IfKnown old.contents (λ content. IsTreeOf (says (held_by source content)) (tree_in result))
  pub cache : IfOk result (λ image. IfKnown old.contents (λ content. content.now.cache ≡ image.cache))
  pub fails : IfDiskFailed result (FailsAt (slots_of source ++ slots.Cache ∷ []) old new)
  pub reads : ReadsOnly (slots_read source result) (load_ending result) old new
