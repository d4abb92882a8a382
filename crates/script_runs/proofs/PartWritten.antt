-- The content of each file after a replacement of files that failed.
use Rattle.std.proofs.Common.{◌≡◌, ◌⊎◌, ℕ, List, [], ◌∷◌, Some, refl, ap, subst, sym, ◌∙◌, inl, inr}
use Rattle.atomic_replace.specs.Replace.{IsWritten, Write}
use Rattle.ldconfig_core.specs.Repair.{OldOrNew}
use Rattle.atomic_replace.specs.OneByOne.{FailsToReplace}
use Rattle.tree_face.specs.declared.disk.Slot.{Slot}
use Rattle.tree_face.specs.declared.disk.Slot.TheVariants.{Manifest, Cache, Aux}
use Rattle.tree_face.specs.Disk.{DiskContent, Slots, slot_of, with_slot}

-- the file that is written has the new content, and the others keep theirs
one_slot : (slots : Slots) (to : Slot) (bytes : List ℕ) (slot : Slot)
    → (slot_of (with_slot slots to (Some bytes)) slot ≡ slot_of slots slot) ⊎ IsWritten (to, bytes) slot (slot_of (with_slot slots to (Some bytes)) slot)
one_slot slots Manifest bytes Manifest = inr (refl, refl)
one_slot slots Manifest bytes Cache = inl refl
one_slot slots Manifest bytes Aux = inl refl
one_slot slots Cache bytes Manifest = inl refl
one_slot slots Cache bytes Cache = inr (refl, refl)
one_slot slots Cache bytes Aux = inl refl
one_slot slots Aux bytes Manifest = inl refl
one_slot slots Aux bytes Cache = inl refl
one_slot slots Aux bytes Aux = inr (refl, refl)

replaced : (write : Write) (a b : Slots) → b ≡ with_slot a write.0 (Some write.1) → (slot : Slot) → (slot_of b slot ≡ slot_of a slot) ⊎ IsWritten write slot (slot_of b slot)
replaced write a b is slot =
    subst (λ (b : Slots). (slot_of b slot ≡ slot_of a slot) ⊎ IsWritten write slot (slot_of b slot)) (sym is) (one_slot a write.0 write.1 slot)

-- each file has its old content, or the content that is written to it
pub part_written : (tag : ℕ) (at : Slot) (writes : List Write) (a c : DiskContent) → FailsToReplace tag at writes a c → OldOrNew writes a.now c.now
part_written tag at [] a c fails = absurd fails
part_written tag at (write ∷ writes) a c (inl (is, may)) = λ slot. elim may.slots [
  | inl same ↦ inl (ap (λ (slots : Slots). slot_of slots slot) same)
  | inr new ↦ elim (replaced write a.now c.now new slot) [ inl old ↦ inl old | inr there ↦ inr (inl there) ]
]
part_written tag at (write ∷ writes) a c (inr (b, (first, rest))) = λ slot. elim (part_written tag at writes b c rest slot) [
  | inl same ↦ elim (replaced write a.now b.now first.slots slot) [
    | inl old ↦ inl (same ∙ old)
    | inr there ↦ inr (inl (there.0, same ∙ there.1))
  ]
  | inr there ↦ inr (inr there)
]
