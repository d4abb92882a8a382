-- What a call that only reads slots does with a disk.
use Rattle.std.specs.Prelude.{◌≤◌, List}
use Rattle.tree_face.specs.declared.disk.Slot.{Slot}
use Rattle.tree_face.specs.Disk.{DiskState, KeepsAll}
use Rattle.tree_face.specs.Follows.{IsFollowedBy, IsFollowedByPart}
use Rattle.tree_face.specs.Known.{Relates}
use Rattle.tree_face.specs.StoreUse.{Ending, Complete, DeviceFailed, GaveUp, HasCause}

-- all of these slots are read, or a prefix of them if the call fails
abbrev pub ReadsSlots : Ending → List Slot → List Slot → List Slot → Type 0
ReadsSlots Complete slots = IsFollowedBy slots
ReadsSlots DeviceFailed slots = IsFollowedByPart slots
ReadsSlots GaveUp slots = IsFollowedByPart slots

-- the call reads these slots in order, each once, and writes nothing; the counts of faults rise only if the disk fails
pub record ReadsOnly (slots : List Slot) (ending : Ending) (old new : DiskState) : Type 0 where
  pub keeps : KeepsAll old new
  pub reads : Relates (ReadsSlots ending slots) old.reads new.reads
  pub faults : old.faults ≤ new.faults
  pub cause : HasCause ⊥ ending old.faults new.faults
  pub read_cause : HasCause ⊥ ending old.read_faults new.read_faults
