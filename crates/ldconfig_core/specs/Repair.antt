-- The effect of an update on the image that a crash has left.
use Rattle.atomic_replace.specs.OneByOne.{IsOfWrites}
use Rattle.std.specs.Prelude.{◌≡◌, ◌⊎◌, ℕ, true, List, [], ◌∷◌, Some}
use Rattle.atomic_replace.specs.Replace.{Write}
use Rattle.image_session.specs.Manifest.{HasTree, manifest_of}
use Rattle.image_session.specs.Session.{Loaded, image_with}
use Rattle.tree_face.specs.declared.disk.Slot.{Slot}
use Rattle.tree_face.specs.Disk.{Content, DiskState, Slots, slot_of, with_slot}

-- the image that is loaded from these slots
pub record IsImageIn (slots : Slots) (s : Loaded) : Type 0 where
  pub tree : manifest_of slots.manifest ≡ HasTree s.tree
  pub is : s ≡ image_with s.tree slots.aux

-- the slots after these replacements
abbrev pub slots_after : List Write → Slots → Slots
slots_after [] slots = slots
slots_after (write ∷ writes) slots = slots_after writes (with_slot slots write.0 (Some write.1))

-- a crash leaves exactly what the slots hold
abbrev pub LeavesOnly : DiskState → Slots → Type 0
LeavesOnly s slots = (slot : Slot) (b : Content) → s.may slot b ≡ true → b ≡ slot_of slots slot

-- these are possible contents of the slots after a crash at time t or later
abbrev pub MightBeLeft : ℕ → DiskState → Slots → Type 0
MightBeLeft t s slots = (slot : Slot) → s.since t slot (slot_of slots slot) ≡ true

-- each slot has its old content, or content that was written to it
abbrev pub OldOrNew : List Write → Slots → Slots → Type 0
OldOrNew writes slots image = (slot : Slot) → (slot_of image slot ≡ slot_of slots slot) ⊎ IsOfWrites writes slot (slot_of image slot)
