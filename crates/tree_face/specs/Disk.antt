-- A disk with three slots. To replace a slot's content, a temporary file is written and then renamed into place (rename(2)).
use Rattle.std.specs.Prelude.{◌≡◌, ◌⊎◌, ◌≤◌, ◌++◌, ◌==◌, ◌&&◌, ℕ, Bool, true, false, List, [], ◌∷◌, Option, Some, None, is_some, IsErrOf, Result, IfOk, OnOk, OnErr, Vec}
use Rattle.std.specs.Option.{option_map, option_eq}
use Rattle.std.specs.Str.{bytes_eq}
use Rattle.std.specs.declared.alloc.Global.{Global}
use Rattle.lib_types.specs.declared.fault.Failed.{Failed}
use Rattle.lib_types.specs.Counts.{HasRisen}
use Rattle.tree_face.specs.declared.disk.DoneCall.{DoneCall}
use Rattle.tree_face.specs.declared.disk.Slot.{Slot}
use Rattle.tree_face.specs.declared.disk.Slot.TheVariants.{Manifest, Cache, Aux}
use Rattle.tree_face.specs.declared.disk.DiskRead.{DiskRead}
use Rattle.tree_face.specs.declared.disk.DiskRead.TheVariants as disk_read
use Rattle.tree_face.specs.Follows.{IsFollowedBy, IsFollowedByPart}
use Rattle.tree_face.specs.Known.{IfKnown, Relates}

abbrev pub Content : Type 0
Content = Option (List ℕ)

abbrev pub content_eq : Content → Content → Bool
content_eq = option_eq bytes_eq

-- the content of each slot
pub record Slots : Type 0 where
  pub manifest : Content
  pub cache : Content
  pub aux : Content

abbrev pub slot_of : Slots → Slot → Content
slot_of s Manifest = s.manifest
slot_of s Cache = s.cache
slot_of s Aux = s.aux

abbrev pub with_slot : Slots → Slot → Content → Slots
with_slot s Manifest c = record s { manifest = c }
with_slot s Cache c = record s { cache = c }
with_slot s Aux c = record s { aux = c }

abbrev pub slot_eq : Slot → Slot → Bool
slot_eq Manifest Manifest = true
slot_eq Cache Cache = true
slot_eq Aux Aux = true
slot_eq _ _ = false

-- the temporary file of each tag and slot, if there is one
abbrev pub Temporaries : Type 0
Temporaries = ℕ → Slot → Content

pub record DiskContent : Type 0 where
  pub now : Slots
  pub temporary : Temporaries
  -- whether a temporary file was flushed since its last append
  pub synced : ℕ → Slot → Bool

pub record DiskState : Type 0 where
  -- the contents, if known
  pub contents : Option DiskContent
  -- whether the temporary file of a tag and slot was created and not published since
  pub made : ℕ → Slot → Bool
  -- the clock
  pub time : ℕ
  -- whether a crash now may leave this content in a slot
  pub may : Slot → Content → Bool
  -- whether a crash at some moment since this time may have left this content in a slot
  pub since : ℕ → Slot → Content → Bool
  -- the writing calls in their order, if known; one that failed may be missing
  pub calls : Option (List DoneCall)
  -- the slots that were read in their order, if known; a reading that failed may be missing
  pub reads : Option (List Slot)
  pub faults : ℕ
  -- the number of faults in reads
  pub read_faults : ℕ

-- If the contents are known, `made` is true exactly for the temporary files that exist.
abbrev pub IsMadeIfThere : DiskState → Type 0
IsMadeIfThere s = IfKnown s.contents (λ c. (t : ℕ) (slot : Slot) → s.made t slot ≡ is_some (c.temporary t slot))

-- ---- changes of the contents

-- the other temporary files do not change
pub record KeepsOthers (tag : ℕ) (slot : Slot) (a b : DiskContent) : Type 0 where
  pub bytes : (t : ℕ) (s : Slot) → (t == tag) && slot_eq s slot ≡ false → b.temporary t s ≡ a.temporary t s
  pub flushed : (t : ℕ) (s : Slot) → (t == tag) && slot_eq s slot ≡ false → b.synced t s ≡ a.synced t s

-- the slots do not change, and only this temporary file may change
pub record Touches (tag : ℕ) (slot : Slot) (a b : DiskContent) : Type 0 where
  pub slots : b.now ≡ a.now
  pub others : KeepsOthers tag slot a b

-- if the temporary file is flushed, it was flushed before and has the same bytes
abbrev pub FlushesNothing : ℕ → Slot → DiskContent → DiskContent → Type 0
FlushesNothing tag slot a b = b.synced tag slot ≡ true → (a.synced tag slot ≡ true) × (b.temporary tag slot ≡ a.temporary tag slot)

-- a failed call on a temporary file: the file may have any bytes
pub record Spoils (tag : ℕ) (slot : Slot) (a b : DiskContent) : Type 0 where
  pub touches : Touches tag slot a b
  pub unflushed : FlushesNothing tag slot a b

-- the temporary file is empty
pub record Creates (tag : ℕ) (slot : Slot) (a b : DiskContent) : Type 0 where
  pub touches : Touches tag slot a b
  pub empty : b.temporary tag slot ≡ Some []
  pub unflushed : b.synced tag slot ≡ false

-- these bytes are appended to the temporary file
pub record Appends (tag : ℕ) (slot : Slot) (bytes : List ℕ) (a b : DiskContent) : Type 0 where
  pub touches : Touches tag slot a b
  pub more : b.temporary tag slot ≡ option_map (λ c. c ++ bytes) (a.temporary tag slot)
  pub unflushed : b.synced tag slot ≡ false

-- the slots and the temporary files do not change
pub record Keeps (a b : DiskContent) : Type 0 where
  pub slots : b.now ≡ a.now
  pub temporary : (t : ℕ) (s : Slot) → b.temporary t s ≡ a.temporary t s
  pub flushed : (t : ℕ) (s : Slot) → b.synced t s ≡ a.synced t s

-- the temporary file is flushed, and its bytes do not change
pub record Syncs (tag : ℕ) (slot : Slot) (a b : DiskContent) : Type 0 where
  pub touches : Touches tag slot a b
  pub same : b.temporary tag slot ≡ a.temporary tag slot
  pub flushed : b.synced tag slot ≡ true

-- the temporary file is renamed into place: it becomes the slot's content
pub record Publishes (tag : ℕ) (slot : Slot) (a b : DiskContent) : Type 0 where
  pub slots : b.now ≡ with_slot a.now slot (a.temporary tag slot)
  pub ended : b.temporary tag slot ≡ None
  pub others : KeepsOthers tag slot a b

-- a failed `publish`: the slot has the old content or the new one
pub record MayPublish (tag : ℕ) (slot : Slot) (a b : DiskContent) : Type 0 where
  pub slots : (b.now ≡ a.now) ⊎ (b.now ≡ with_slot a.now slot (a.temporary tag slot))
  pub others : KeepsOthers tag slot a b
  pub unflushed : FlushesNothing tag slot a b

-- ---- the calls

-- a writing call: what it does to the contents if it returns Ok, and if it returns Failed
pub record Does (call : DoneCall) (change left : DiskContent → DiskContent → Type 0) (old new : DiskState) (result : Result (Unit {0}) Failed) : Type 0 where
  pub done : OnOk result (Relates change old.contents new.contents)
  pub failed : OnErr result (Relates left old.contents new.contents)
  pub added : OnOk result (Relates (IsFollowedBy (call ∷ [])) old.calls new.calls)
  pub may_add : OnErr result (Relates (IsFollowedByPart (call ∷ [])) old.calls new.calls)
  pub reads : new.reads ≡ old.reads
  pub faults : old.faults ≤ new.faults
  pub no_fault : OnOk result (new.faults ≡ old.faults)
  pub read_faults : new.read_faults ≡ old.read_faults
  pub cause : OnErr result (HasRisen old.faults new.faults)

-- no temporary file is created or removed
abbrev pub KeepsMade : DiskState → DiskState → Type 0
KeepsMade old new = (t : ℕ) (s : Slot) → new.made t s ≡ old.made t s

-- no other temporary file is created or removed
abbrev pub KeepsOthersMade : ℕ → Slot → DiskState → DiskState → Type 0
KeepsOthersMade tag slot old new = (t : ℕ) (s : Slot) → (t == tag) && slot_eq s slot ≡ false → new.made t s ≡ old.made t s

-- nothing is written: the contents, the temporary files, the calls and what a crash may leave do not change
pub record KeepsAll (old new : DiskState) : Type 0 where
  pub contents : new.contents ≡ old.contents
  pub made : KeepsMade old new
  pub calls : new.calls ≡ old.calls
  pub time : new.time ≡ old.time
  pub may : new.may ≡ old.may
  pub since : new.since ≡ old.since

-- the call that reads a slot
pub record ReadsSlot (old new : DiskState) (slot : Slot) (result : Result (Option (Vec ℕ Global)) DiskRead) : Type 0 where
  pub content : IfOk result (λ found. IfKnown old.contents (λ known. option_map (λ v. v.items) found ≡ slot_of known.now slot))
  pub keeps : KeepsAll old new
  pub reads : OnOk result (Relates (IsFollowedBy (slot ∷ [])) old.reads new.reads)
  pub may_read : OnErr result (Relates (IsFollowedByPart (slot ∷ [])) old.reads new.reads)
  pub faults : old.faults ≤ new.faults
  pub read_faults : old.read_faults ≤ new.read_faults
  pub no_fault : OnOk result ((new.faults ≡ old.faults) × (new.read_faults ≡ old.read_faults))
  pub no_memory : IsErrOf result disk_read.NoMemory → (new.faults ≡ old.faults) × (new.read_faults ≡ old.read_faults)
  pub cause : IsErrOf result disk_read.Failed → HasRisen old.faults new.faults
  pub counted : IsErrOf result disk_read.Failed → HasRisen old.read_faults new.read_faults
