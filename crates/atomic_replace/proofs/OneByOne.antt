-- A list of slots, replaced item by item.
use Rattle.std.proofs.Common.{◌≡◌, ◌<◌, ◌+◌, ℕ, true, false, ◌||◌, length, drop, get_or, add-one, List, [], ◌∷◌, ◌++◌, refl, sym, ap, subst, ◌∙◌, append_assoc}
use Rattle.std.proofs.Common.{drop-cons}
use Rattle.std.specs.List.{list_any}
use Rattle.atomic_replace.specs.declared.fault.DiskFault.{DiskFault}
use Rattle.atomic_replace.specs.Replace.{Write}
use Rattle.tree_face.specs.declared.disk.Tag.{Tag}
use Rattle.tree_face.specs.Disk.{DiskState, KeepsOthersMade, slot_eq}
use Rattle.atomic_replace.proofs.CallsOneByOne.{part_first, part_second, rest_made, rest_on, writes_on}
use Rattle.atomic_replace.specs.OneByOne.{HasReplaced, WritesAll, WritesPart, slots_of, writes_in}
use Rattle.atomic_replace.specs.declared.slots.SlotWrite.{SlotWrite}
use Rattle.tree_face.proofs.Crash.{same_slot}

-- the slot of a list's item is in the list's slots
among : (done : List Write) (w : Write) (rest : List Write) → list_any (slot_eq w.0) (slots_of (done ++ w ∷ rest)) ≡ true
among [] w rest = ap (λ b. b || list_any (slot_eq w.0) (slots_of rest)) (same_slot w.0)
among (x ∷ done) w rest = ap (λ b. slot_eq w.0 x.0 || b) (among done w rest) ∙ or_true (slot_eq w.0 x.0)
  where
    or_true : (b : _) → (b || true) ≡ true
    or_true true = refl
    or_true false = refl

module _ (tag : Tag) (all : List Write) where
  pub goes_on : (w : Write) (rest : List Write) (a b c : DiskState) → HasReplaced tag all (w ∷ rest) a b → WritesAll tag (w ∷ []) b c → KeepsOthersMade tag.0 w.0 b c
      → HasReplaced tag all rest a c
  goes_on w rest a b c so_far one kept = record {
    done = so_far.done ++ w ∷ [];
    parts = so_far.parts ∙ sym (append_assoc so_far.done (w ∷ []) rest);
    written = writes_on tag so_far.done (w ∷ []) a b c so_far.written one;
    made = rest_on tag.0 (slots_of all) a b c so_far.made
        (rest_made tag.0 (slots_of all) w.0 (ap (λ l. list_any (slot_eq w.0) (slots_of l)) so_far.parts ∙ among so_far.done w rest) b c kept);
  }

  pub stops : (w : Write) (rest : List Write) (fault : DiskFault) (a b c : DiskState) → HasReplaced tag all (w ∷ rest) a b → WritesPart tag (w ∷ []) fault b c
      → WritesPart tag all fault a c
  stops w rest fault a b c so_far part =
      subst (λ l. WritesPart tag l fault a c) (sym so_far.parts)
      (part_second tag so_far.done (w ∷ rest) a b c fault so_far.written (part_first tag (w ∷ []) rest b c c fault part))

-- the next item of the given list
pub next_is : (writes : List SlotWrite) (i : ℕ) (d : SlotWrite) → i < length writes →
    writes_in (drop i writes) ≡ ((get_or writes i d).slot, (get_or writes i d).bytes.now) ∷ writes_in (drop (i + 1) writes)
next_is writes i d less =
    let step : drop i writes ≡ get_or writes i d ∷ drop (i + 1) writes = rw (drop-cons writes i d less, add-one) refl in
    ap writes_in step
