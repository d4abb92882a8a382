-- Reading a source and then a slot, and the slot at which the reading fails.
use Rattle.std.proofs.Common.{◌≡◌, ◌∷◌, ◌++◌, List, [], Option, Some, None, Ok, Err, subst, sym}
use Rattle.tree_face.specs.declared.disk.Slot.{Slot}
use Rattle.tree_face.specs.declared.disk.Slot.TheVariants as slots
use Rattle.tree_face.specs.Disk.{DiskContent, DiskState}
use Rattle.tree_face.specs.DiskUse.{ReadsOnly}
use Rattle.tree_face.specs.Known.{IfKnown}
use Rattle.tree_face.specs.StoreUse.{Complete, DeviceFailed, GaveUp}
use Rattle.image_tree.specs.Tree.{Nodes}
use Rattle.image_session.proofs.ReadSlots.{fails_alone, fails_before, fails_next, reads_next, reads_part}
use Rattle.image_session.specs.Faults.{of_slot}
use Rattle.image_session.specs.Reading.{FailsAt, ReadsContent, ReadsImage, ReadsStored, ReadsTree, slots_of}
use Rattle.image_session.specs.Session.{ReadsBoth}
use Rattle.image_session.specs.declared.fault.LoadFault.{LoadFault}
use Rattle.image_session.specs.declared.fault.LoadFault.TheVariants as faults
use Rattle.image_session.specs.declared.fault.SlotFault.{SlotFault}
use Rattle.image_session.specs.declared.fault.SlotFault.TheVariants as slot_faults
use Rattle.image_session.specs.declared.reading.Stored.{Stored}
use Rattle.image_session.specs.declared.reading.TreeSource.{TreeSource}
use Rattle.image_session.specs.declared.reading.TreeSource.TheVariants as sources

pub anyway : (known : Option DiskContent) → IfKnown known (λ content. Unit {0})
anyway None = tt
anyway (Some content) = tt

-- the manifest's slot
pub stored_fails : (source : TreeSource) (fault : SlotFault) (a b : DiskState) → ReadsContent slots.Manifest (Err fault) a b → ReadsStored source (Err fault) a b
stored_fails sources.Manifest (slot_faults.DiskFailed slot) a b reads = record {
  content = tt;
  fails = subst (λ (s : Slot). FailsAt (slots.Manifest ∷ []) a b s) (sym reads.fails) (fails_alone slots.Manifest a b reads.reads);
  reads = reads.reads;
}
stored_fails sources.Manifest slot_faults.NoMemory a b reads = record { content = tt; fails = tt; reads = reads.reads }

-- a slot after those that were read
slot_fails : (xs : List Slot) (slot failed : Slot) (a b c : DiskState) → ReadsOnly xs Complete a b → failed ≡ slot → ReadsOnly (slot ∷ []) DeviceFailed b c → FailsAt (xs ++ slot ∷ []) a c failed
slot_fails xs slot failed a b c first is next = subst (λ (s : Slot). FailsAt (xs ++ slot ∷ []) a c s) (sym is) (fails_next xs slot a b c first next)

module _ (source : TreeSource) where
  -- ---- the source, then the Aux slot

  pub both_first : (fault : SlotFault) (a b : DiskState) → ReadsStored source (Err fault) a b → ReadsBoth source (Err fault) a b
  both_first (slot_faults.DiskFailed slot) a b reads = record {
    stored = tt;
    aux = tt;
    fails = fails_before (slots_of source) (slots.Aux ∷ []) slot a b reads.fails;
    reads = reads_part (slots_of source) (slots.Aux ∷ []) a b DeviceFailed tt reads.reads;
  }
  both_first slot_faults.NoMemory a b reads =
      record { stored = tt; aux = tt; fails = tt; reads = reads_part (slots_of source) (slots.Aux ∷ []) a b GaveUp tt reads.reads }

  pub both_second : (stored : Stored) (fault : SlotFault) (a b c : DiskState) → ReadsStored source (Ok stored) a b → ReadsContent slots.Aux (Err fault) b c → ReadsBoth source (Err fault) a c
  both_second stored (slot_faults.DiskFailed slot) a b c first next = record {
    stored = tt;
    aux = tt;
    fails = slot_fails (slots_of source) slots.Aux slot a b c first.reads next.fails next.reads;
    reads = reads_next (slots_of source) (slots.Aux ∷ []) DeviceFailed a b c first.reads next.reads;
  }
  both_second stored slot_faults.NoMemory a b c first next =
      record { stored = tt; aux = tt; fails = tt; reads = reads_next (slots_of source) (slots.Aux ∷ []) GaveUp a b c first.reads next.reads }

  -- ---- the tree, then the Cache slot

  pub image_first : (fault : LoadFault) (a b : DiskState) → ReadsTree source (Err fault) a b → ReadsImage source (Err fault) a b
  image_first (faults.DiskFailed slot) a b reads = record {
    tree = reads.tree;
    cache = tt;
    fails = fails_before (slots_of source) (slots.Cache ∷ []) slot a b reads.fails;
    reads = reads_part (slots_of source) (slots.Cache ∷ []) a b DeviceFailed tt reads.reads;
  }
  image_first faults.NoMemory a b reads =
      record { tree = reads.tree; cache = tt; fails = tt; reads = reads_part (slots_of source) (slots.Cache ∷ []) a b GaveUp tt reads.reads }
  image_first faults.NoManifest a b reads = record { tree = reads.tree; cache = tt; fails = tt; reads = reads.reads }
  image_first (faults.BadManifest fault) a b reads = record { tree = reads.tree; cache = tt; fails = tt; reads = reads.reads }

  pub image_second : (tree : Nodes) (fault : SlotFault) (a b c : DiskState) → ReadsTree source (Ok tree) a b → ReadsContent slots.Cache (Err fault) b c → ReadsImage source (Err (of_slot fault)) a c
  image_second tree (slot_faults.DiskFailed slot) a b c first next = record {
    tree = anyway a.contents;
    cache = tt;
    fails = slot_fails (slots_of source) slots.Cache slot a b c first.reads next.fails next.reads;
    reads = reads_next (slots_of source) (slots.Cache ∷ []) DeviceFailed a b c first.reads next.reads;
  }
  image_second tree slot_faults.NoMemory a b c first next =
      record { tree = anyway a.contents; cache = tt; fails = tt; reads = reads_next (slots_of source) (slots.Cache ∷ []) GaveUp a b c first.reads next.reads }
