-- Calls that only read slots, one after another.
use Rattle.std.proofs.Common.{◌≡◌, ◌∷◌, ◌++◌, ℕ, List, [], Option, Some, None, inl, inr, ap, arith, append_assoc, refl, sym, ◌∙◌}
use Rattle.std.proofs.lemmas.List.{append-nil}
use Rattle.tree_face.proofs.Follows.{follow, follow_part, part_of, part_whole}
use Rattle.tree_face.proofs.Known.{relates_by, relates_on}
use Rattle.tree_face.specs.declared.disk.Slot.{Slot}
use Rattle.tree_face.specs.Disk.{DiskState, KeepsAll}
use Rattle.tree_face.specs.DiskUse.{ReadsOnly, ReadsSlots}
use Rattle.tree_face.specs.Follows.{IsFollowedBy}
use Rattle.tree_face.specs.Known.{Relates}
use Rattle.tree_face.proofs.StoreUse.{IsPartial}
use Rattle.image_session.specs.Reading.{FailsAt}
use Rattle.tree_face.specs.StoreUse.{Ending, Complete, DeviceFailed, GaveUp, HasCause}

keeps_on : (a b c : DiskState) → KeepsAll a b → KeepsAll b c → KeepsAll a c
keeps_on a b c first next = record {
  contents = next.contents ∙ first.contents;
  made = λ t s. next.made t s ∙ first.made t s;
  calls = next.calls ∙ first.calls;
  time = next.time ∙ first.time;
  may = next.may ∙ first.may;
  since = next.since ∙ first.since;
}

cause_on : (e : Ending) (a b c : ℕ) → b ≡ a → HasCause ⊥ e b c → HasCause ⊥ e a c
cause_on Complete a b c none last = last ∙ none
cause_on DeviceFailed a b c none (inl risen) = inl (rw (← none) risen)
cause_on DeviceFailed a b c none (inr lacks) = inr lacks
cause_on GaveUp a b c none last = last ∙ none

module _ (xs ys : List Slot) where
  slots_on : (e : Ending) (a b c : List Slot) → IsFollowedBy xs a b → ReadsSlots e ys b c → ReadsSlots e (xs ++ ys) a c
  slots_on Complete a b c = follow xs ys a b c
  slots_on DeviceFailed a b c = follow_part xs ys a b c
  slots_on GaveUp a b c = follow_part xs ys a b c

  -- a call that reads all its slots, followed by another call
  pub reads_next : (e : Ending) (a b c : DiskState) → ReadsOnly xs Complete a b → ReadsOnly ys e b c → ReadsOnly (xs ++ ys) e a c
  reads_next e a b c first next = record {
    keeps = keeps_on a b c first.keeps next.keeps;
    reads = relates_on _ _ _ (slots_on e) _ _ _ first.reads next.reads;
    faults = omega (arith, first.faults, next.faults);
    cause = cause_on e _ _ _ first.cause next.cause;
    read_cause = cause_on e _ _ _ first.read_cause next.read_cause;
  }

-- nothing is read
pub reads_none : (a : DiskState) → ReadsOnly [] Complete a a
reads_none a = record {
  keeps = record { contents = refl; made = λ t s. refl; calls = refl; time = refl; may = refl; since = refl };
  reads = unchanged a.reads;
  faults = omega arith;
  cause = refl;
  read_cause = refl;
}
  where
    unchanged : (known : Option (List Slot)) → Relates (ReadsSlots Complete []) known known
    unchanged None = tt
    unchanged (Some slots) = sym (append-nil slots)

-- a call that ends before all its slots are read, as part of a longer list of slots
module _ (xs ys : List Slot) (a b : DiskState) where
  pub reads_part : (e : Ending) → IsPartial e → ReadsOnly xs e a b → ReadsOnly (xs ++ ys) e a b
  reads_part Complete partial reads = absurd partial
  reads_part DeviceFailed partial reads = record {
    keeps = reads.keeps;
    reads = relates_by _ _ (part_of xs ys) _ _ reads.reads;
    faults = reads.faults;
    cause = reads.cause;
    read_cause = reads.read_cause;
  }
  reads_part GaveUp partial reads = record {
    keeps = reads.keeps;
    reads = relates_by _ _ (part_of xs ys) _ _ reads.reads;
    faults = reads.faults;
    cause = reads.cause;
    read_cause = reads.read_cause;
  }

-- ---- the slot at which a call fails

-- the only slot
pub fails_alone : (slot : Slot) (a b : DiskState) → ReadsOnly (slot ∷ []) DeviceFailed a b → FailsAt (slot ∷ []) a b slot
fails_alone slot a b reads = record { before = []; following = []; is_next = refl; between = a; read = reads_none a; fails = reads }

-- the slot after those that were read
pub fails_next : (xs : List Slot) (slot : Slot) (a b c : DiskState) → ReadsOnly xs Complete a b → ReadsOnly (slot ∷ []) DeviceFailed b c → FailsAt (xs ++ slot ∷ []) a c slot
fails_next xs slot a b c first next = record { before = xs; following = []; is_next = refl; between = b; read = first; fails = next }

-- a slot of the first part of the list
pub fails_before : (xs ys : List Slot) (slot : Slot) (a b : DiskState) → FailsAt xs a b slot → FailsAt (xs ++ ys) a b slot
fails_before xs ys slot a b first = record {
  before = first.before;
  following = first.following ++ ys;
  is_next = ap (λ l. l ++ ys) first.is_next ∙ append_assoc first.before (slot ∷ first.following) ys;
  between = first.between;
  read = first.read;
  fails = first.fails;
}

-- all slots were read before the call ran out of memory
pub gave_up : (xs : List Slot) (a b : DiskState) → ReadsOnly xs Complete a b → ReadsOnly xs GaveUp a b
gave_up xs a b reads = record {
  keeps = reads.keeps;
  reads = relates_by _ _ (part_whole xs) _ _ reads.reads;
  faults = reads.faults;
  cause = reads.cause;
  read_cause = reads.read_cause;
}
