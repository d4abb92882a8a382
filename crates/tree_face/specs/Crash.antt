-- What a crash leaves in the slots of a disk. After a slot is flushed, a crash leaves the slot's content. Until then it leaves what it
-- may have left before, or what was published since (fsync(2), rename(2)).
use Rattle.std.specs.Prelude.{◌≡◌, ◌⊎◌, ◌≤◌, ◌&&◌, ◌||◌, ℕ, Bool, true, false, not, None, is_some, Result, OnOk, OnErr}
use Rattle.lib_types.specs.declared.fault.Failed.{Failed}
use Rattle.tree_face.specs.declared.disk.Slot.{Slot}
use Rattle.tree_face.specs.Disk.{Content, DiskContent, DiskState, content_eq, slot_eq, slot_of}
use Rattle.tree_face.specs.Known.{IfKnown}

-- ---- one moment

-- the laws of a disk's clock
pub record HasMoments (s : DiskState) : Type 0 where
  -- a crash may leave the slot's current content
  pub held : IfKnown s.contents (λ c. (slot : Slot) → s.may slot (slot_of c.now slot) ≡ true)
  -- if the contents are unknown, a crash may leave anything
  pub unknown : s.contents ≡ None → (slot : Slot) (b : Content) → s.may slot b ≡ true
  -- the only moment from the current time on is now
  pub now : (slot : Slot) (b : Content) → s.since s.time slot b ≡ s.may slot b
  -- what a crash may have left since a later time u, it may have left since an earlier time t
  pub earlier : (t u : ℕ) (slot : Slot) (b : Content) → t ≤ u → u ≤ s.time → s.since u slot b ≡ true → s.since t slot b ≡ true

-- what a crash may leave of a published file: its content, and any bytes if it wasn't flushed
abbrev pub left_by : Content → Bool → Content → Bool
left_by content synced b = content_eq content b || (not synced && is_some b)

-- what a crash may leave after this temporary file is published
abbrev pub published : DiskContent → ℕ → Slot → Content → Bool
published c tag slot = left_by (c.temporary tag slot) (c.synced tag slot)

-- ---- a call

-- what a crash since t may have left is what it may have left between t and the call, or from the call on
pub record GoesOn (old new : DiskState) : Type 0 where
  pub later : old.time ≤ new.time
  pub moments : (t : ℕ) (slot : Slot) (b : Content) → t ≤ old.time → new.since t slot b ≡ (old.since t slot b || new.since old.time slot b)

-- the call does not change what a crash may leave in this slot
pub record LeavesSame (slot : Slot) (old new : DiskState) : Type 0 where
  pub now : (b : Content) → new.may slot b ≡ old.may slot b
  pub during : (t : ℕ) (b : Content) → t ≤ old.time → new.since t slot b ≡ old.since t slot b

-- the call adds the contents that pass the test to what a crash may leave in this slot
pub record LeavesMore (test : Content → Bool) (slot : Slot) (old new : DiskState) : Type 0 where
  pub now : (b : Content) → new.may slot b ≡ (old.may slot b || test b)
  pub during : (t : ℕ) (b : Content) → t ≤ old.time → new.since t slot b ≡ (old.since t slot b || test b)

-- the call adds at most the contents that pass the test
pub record LeavesAtMost (test : Content → Bool) (slot : Slot) (old new : DiskState) : Type 0 where
  pub now : (b : Content) → new.may slot b ≡ true → (old.may slot b || test b) ≡ true
  pub during : (t : ℕ) (b : Content) → t ≤ old.time → new.since t slot b ≡ true → (old.since t slot b || test b) ≡ true

-- other slots are untouched
abbrev pub LeavesOthers : Slot → DiskState → DiskState → Type 0
LeavesOthers slot old new = (s : Slot) → slot_eq s slot ≡ false → LeavesSame s old new

-- a call that writes no slot
pub record KeepsSlots (old new : DiskState) : Type 0 where
  pub goes_on : GoesOn old new
  pub slots : (slot : Slot) → LeavesSame slot old new

-- the call `publish`
pub record AddsPublished (tag : ℕ) (slot : Slot) (old new : DiskState) (result : Result (Unit {0}) Failed) : Type 0 where
  pub goes_on : GoesOn old new
  pub others : LeavesOthers slot old new
  pub done : OnOk result (IfKnown old.contents (λ c. LeavesMore (published c tag slot) slot old new))
  pub failed : OnErr result (IfKnown old.contents (λ c. LeavesAtMost (published c tag slot) slot old new))

-- the call `settle`: if it succeeds, a crash leaves the slot's content
pub record Settles (slot : Slot) (old new : DiskState) (result : Result (Unit {0}) Failed) : Type 0 where
  pub goes_on : GoesOn old new
  pub others : LeavesOthers slot old new
  pub during : (t : ℕ) (b : Content) → t ≤ old.time → new.since t slot b ≡ old.since t slot b
  pub done : OnOk result (IfKnown old.contents (λ c. (b : Content) → new.may slot b ≡ content_eq (slot_of c.now slot) b))
  pub failed : OnErr result (LeavesSame slot old new)

-- ---- several calls

-- in each slot a crash, now or at any moment since t, leaves what it may have left before, or what P allows
pub record Leaves (P : Slot → Content → Type 0) (old new : DiskState) : Type 0 where
  pub later : old.time ≤ new.time
  pub during : (t : ℕ) (slot : Slot) (b : Content) → t ≤ old.time → new.since t slot b ≡ true → (old.since t slot b ≡ true) ⊎ P slot b
  pub now : (slot : Slot) (b : Content) → new.may slot b ≡ true → (old.may slot b ≡ true) ⊎ P slot b

-- no temporary file, and each slot is flushed
pub record IsAtRest (s : DiskState) : Type 0 where
  pub made : (t : ℕ) (slot : Slot) → s.made t slot ≡ false
  pub temporary : IfKnown s.contents (λ c. (t : ℕ) (slot : Slot) → c.temporary t slot ≡ None)
  pub flushed : IfKnown s.contents (λ c. (slot : Slot) (b : Content) → s.may slot b ≡ content_eq (slot_of c.now slot) b)

-- a disk as a crash may leave it: it is at rest, and each slot has a content that a crash may leave there
pub record IsImage (s image : DiskState) : Type 0 where
  pub rest : IsAtRest image
  pub allowed : IfKnown image.contents (λ c. (slot : Slot) → s.may slot (slot_of c.now slot) ≡ true)
