-- The effect of replacing a slot's content by way of a temporary file with a tag.
use Rattle.std.specs.Prelude.{◌≡◌, ◌⊎◌, ◌+◌, ◌++◌, ℕ, Bool, true, false, List, take, Some, None}
use Rattle.std.specs.List.{slice_get}
use Rattle.lib_types.specs.Counts.{HasRisen}
use Rattle.tree_face.specs.Calls.{made_call, replacement, settling}
use Rattle.tree_face.specs.declared.disk.Call.{Call}
use Rattle.tree_face.specs.declared.disk.Call.TheVariants.{Create, Append, Sync, Publish, Settle}
use Rattle.tree_face.specs.declared.disk.DoneCall.{DoneCall}
use Rattle.tree_face.specs.declared.disk.Slot.{Slot}
use Rattle.tree_face.specs.declared.disk.Tag.{Tag}
use Rattle.tree_face.specs.Crash.{GoesOn, KeepsSlots, Leaves, LeavesOthers}
use Rattle.tree_face.specs.Disk.{Content, DiskContent, DiskState, KeepsOthers, Touches, content_eq, with_slot}
use Rattle.tree_face.specs.Follows.{IsFollowedBy}
use Rattle.tree_face.specs.Known.{IfKnown, Relates}
use Rattle.atomic_replace.specs.declared.fault.DiskFault.{DiskFault}

-- a slot and its new content
abbrev pub Write : Type 0
Write = Slot × List ℕ

-- ---- contents

-- the slot has these bytes, the temporary file is gone, and all else is unchanged
pub record ReplacesSlot (tag : ℕ) (write : Write) (a b : DiskContent) : Type 0 where
  pub slots : b.now ≡ with_slot a.now write.0 (Some write.1)
  pub ended : b.temporary tag write.0 ≡ None
  pub others : KeepsOthers tag write.0 a b

-- a failed replacement: the slot has these bytes or is unchanged, and apart from it only the temporary file may have changed
pub record MayReplaceSlot (tag : ℕ) (write : Write) (a b : DiskContent) : Type 0 where
  pub slots : (b.now ≡ a.now) ⊎ (b.now ≡ with_slot a.now write.0 (Some write.1))
  pub others : KeepsOthers tag write.0 a b

-- ---- contents after a crash

-- this slot has these bytes
abbrev pub IsWritten : Write → Slot → Content → Type 0
IsWritten write slot b = (slot ≡ write.0) × (b ≡ Some write.1)

-- ---- the writing calls

abbrev pub comes_before_publish : Call → Bool
comes_before_publish Create = true
comes_before_publish Append = true
comes_before_publish Sync = true
comes_before_publish Publish = false
comes_before_publish Settle = false

-- the record of a replacement's call in the list of calls
abbrev pub call_by : Tag → Slot → Call → DoneCall
call_by tag slot Settle = settling slot
call_by tag slot Create = made_call tag slot Create
call_by tag slot Append = made_call tag slot Append
call_by tag slot Sync = made_call tag slot Sync
call_by tag slot Publish = made_call tag slot Publish

-- the calls before this one were made; this one failed and may or may not be recorded
pub record StopsAt (call : DoneCall) (calls : List DoneCall) (a b : List DoneCall) : Type 0 where
  pub number : ℕ
  pub at : slice_get calls number ≡ Some call
  pub made : (b ≡ a ++ take number calls) ⊎ (b ≡ a ++ take (number + 1) calls)

-- ---- on the whole disk

-- the slot is replaced by the five calls, and the number of failed calls stays the same
pub record WritesSlot (tag : Tag) (write : Write) (old new : DiskState) : Type 0 where
  pub contents : Relates (ReplacesSlot tag.0 write) old.contents new.contents
  pub calls : Relates (IsFollowedBy (replacement tag write.0)) old.calls new.calls
  pub reads : new.reads ≡ old.reads
  pub faults : new.faults ≡ old.faults
  pub read_faults : new.read_faults ≡ old.read_faults
  -- At each moment, a crash leaves in the slot these bytes or content that was possible before. At the end only these bytes are possible.
  pub leaves : Leaves (IsWritten write) old new
  pub settled : IfKnown new.contents (λ _. (b : Content) → new.may write.0 b ≡ content_eq (Some write.1) b)
  pub goes_on : GoesOn old new
  pub others : LeavesOthers write.0 old new

-- one of the calls failed; the fault names it, and the number of failed calls rises
pub record FailsToWrite (tag : Tag) (write : Write) (fault : DiskFault) (old new : DiskState) : Type 0 where
  pub slot : fault.slot ≡ write.0
  pub contents : Relates (MayReplaceSlot tag.0 write) old.contents new.contents
  pub calls : Relates (StopsAt (call_by tag fault.slot fault.call) (replacement tag write.0)) old.calls new.calls
  pub reads : new.reads ≡ old.reads
  pub faults : HasRisen old.faults new.faults
  pub read_faults : new.read_faults ≡ old.read_faults
  pub leaves : Leaves (IsWritten write) old new
  pub goes_on : GoesOn old new
  pub others : LeavesOthers write.0 old new
  -- if a call before the rename failed, the slot keeps its old content, for readers and after a crash
  pub unpublished : comes_before_publish fault.call ≡ true → Relates (Touches tag.0 write.0) old.contents new.contents
  pub untouched : comes_before_publish fault.call ≡ true → KeepsSlots old new
