-- The effect of replacing several slots one after another, by way of temporary files with a tag.
use Rattle.std.specs.Prelude.{◌≡◌, ◌⊎◌, ◌==◌, ◌&&◌, ℕ, Bool, true, false, List, [], ◌∷◌, ◌++◌, flat_map, map}
use Rattle.std.specs.List.{list_any}
use Rattle.atomic_replace.specs.declared.fault.DiskFault.{DiskFault}
use Rattle.atomic_replace.specs.Replace.{IsWritten, MayReplaceSlot, ReplacesSlot, StopsAt, Write, call_by}
use Rattle.lib_types.specs.Counts.{HasRisen}
use Rattle.tree_face.specs.Calls.{replacement}
use Rattle.tree_face.specs.Crash.{Leaves}
use Rattle.tree_face.specs.declared.disk.DoneCall.{DoneCall}
use Rattle.tree_face.specs.declared.disk.Slot.{Slot}
use Rattle.tree_face.specs.declared.disk.Tag.{Tag}
use Rattle.tree_face.specs.Disk.{Content, DiskContent, DiskState, slot_eq}
use Rattle.tree_face.specs.Follows.{IsFollowedBy}
use Rattle.tree_face.specs.Known.{IfKnown, IsSame, Relates}
use Rattle.atomic_replace.specs.declared.slots.SlotWrite.{SlotWrite}

-- ---- several slots, one after another

-- the composition of two relations
abbrev pub Then : (DiskContent → DiskContent → Type 0) → (DiskContent → DiskContent → Type 0) → DiskContent → DiskContent → Type 0
Then R S a c = (b : DiskContent) × (R a b × S b c)

-- all slots are replaced
abbrev pub Replaces : ℕ → List Write → DiskContent → DiskContent → Type 0
Replaces tag [] = IsSame
Replaces tag (write ∷ writes) = Then (ReplacesSlot tag write) (Replaces tag writes)

-- the slots before this one are replaced, and the replacement of this one failed
abbrev pub FailsToReplace : ℕ → Slot → List Write → DiskContent → DiskContent → Type 0
FailsToReplace tag slot [] a c = ⊥
FailsToReplace tag slot (write ∷ writes) a c =
    ((write.0 ≡ slot) × MayReplaceSlot tag write a c) ⊎ Then (ReplacesSlot tag write) (FailsToReplace tag slot writes) a c

-- ---- the writing calls

-- the calls of all replacements, in order
abbrev pub calls_of : Tag → List Write → List DoneCall
calls_of tag writes = flat_map (λ write. replacement tag write.0) writes

-- ---- crashes

-- one of the writes puts this content into this slot
abbrev pub IsOfWrites : List Write → Slot → Content → Type 0
IsOfWrites [] slot b = ⊥
IsOfWrites (write ∷ writes) slot b = IsWritten write slot b ⊎ IsOfWrites writes slot b

abbrev pub is_written : List Write → Slot → Bool
is_written writes slot = list_any (λ write. slot_eq slot write.0) writes

abbrev pub slots_of : List Write → List Slot
slots_of writes = map (λ write. write.0) writes

-- Up to a moment no other slot changes. From that moment on a crash leaves in this slot only content that was written to it.
pub record SettlesBefore (write : Write) (later : List Write) (old settled new : DiskState) : Type 0 where
  pub until : Leaves (IsOfWrites (write ∷ [])) old settled
  pub on : (b : Content) → new.since settled.time write.0 b ≡ true → IsOfWrites (write ∷ later) write.0 b

-- each slot is settled (its name is flushed) before a later slot changes
abbrev pub SettlesInOrder : List Write → DiskState → DiskState → Type 0
SettlesInOrder [] old new = new ≡ old
SettlesInOrder (write ∷ writes) old new = (settled : DiskState) × (SettlesBefore write writes old settled new × SettlesInOrder writes settled new)

-- the slots before this one are settled in order, and then only this slot changes
abbrev pub StopsInOrder : Slot → List Write → DiskState → DiskState → Type 0
StopsInOrder slot [] old new = ⊥
StopsInOrder slot (write ∷ writes) old new =
    ((write.0 ≡ slot) × Leaves (IsOfWrites (write ∷ [])) old new)
    ⊎ ((settled : DiskState) × (SettlesBefore write writes old settled new × StopsInOrder slot writes settled new))

-- in each written slot, a crash leaves only content that was written to it
abbrev pub LeavesOnlyWritten : List Write → DiskState → Type 0
LeavesOnlyWritten writes s = (slot : Slot) (b : Content) → is_written writes slot ≡ true → s.may slot b ≡ true → IsOfWrites writes slot b

-- ---- on the whole disk

-- apart from the temporary files of this tag and these slots, the same temporary files exist as before
abbrev pub KeepsRestMade : ℕ → List Slot → DiskState → DiskState → Type 0
KeepsRestMade tag slots old new = (t : ℕ) (s : Slot) → (t == tag) && list_any (slot_eq s) slots ≡ false → new.made t s ≡ old.made t s

-- all slots are replaced by exactly these calls, and the number of failed calls stays the same
pub record WritesAll (tag : Tag) (writes : List Write) (old new : DiskState) : Type 0 where
  pub contents : Relates (Replaces tag.0 writes) old.contents new.contents
  pub calls : Relates (IsFollowedBy (calls_of tag writes)) old.calls new.calls
  pub leaves : Leaves (IsOfWrites writes) old new
  pub order : IfKnown old.contents (λ _. SettlesInOrder writes old new)
  pub settled : IfKnown new.contents (λ _. LeavesOnlyWritten writes new)
  pub reads : new.reads ≡ old.reads
  pub faults : new.faults ≡ old.faults
  pub read_faults : new.read_faults ≡ old.read_faults

-- one call failed; the fault names it, and the number of failed calls rises
pub record WritesPart (tag : Tag) (writes : List Write) (fault : DiskFault) (old new : DiskState) : Type 0 where
  pub contents : Relates (FailsToReplace tag.0 fault.slot writes) old.contents new.contents
  pub calls : Relates (StopsAt (call_by tag fault.slot fault.call) (calls_of tag writes)) old.calls new.calls
  pub leaves : Leaves (IsOfWrites writes) old new
  pub order : IfKnown old.contents (λ _. StopsInOrder fault.slot writes old new)
  pub reads : new.reads ≡ old.reads
  pub faults : HasRisen old.faults new.faults
  pub read_faults : new.read_faults ≡ old.read_faults

-- the writes as slots with bytes
abbrev pub writes_in : List SlotWrite → List Write
writes_in writes = map (λ w. (w.slot, w.bytes.now)) writes

-- ---- what private functions do

-- the first items are replaced, and these items are left
pub record HasReplaced (tag : Tag) (all left : List Write) (old new : DiskState) : Type 0 where
  pub done : List Write
  pub parts : all ≡ done ++ left
  pub written : WritesAll tag done old new
  pub made : KeepsRestMade tag.0 (slots_of all) old new
