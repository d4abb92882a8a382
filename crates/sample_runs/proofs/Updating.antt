-- One update of a sample, and both one after the other.
use Rattle.std.proofs.Common.{◌≡◌, ◌≤◌, ℕ, true, refl, List, [], ◌∷◌, Option, Some, None, Result, Ok, Err, sym, ap, subst, ◌∙◌, arith}
use Rattle.std.proofs.lemmas.List.{append-nil}
use Rattle.hwcap_dirs.specs.declared.kinds.Scope.TheVariants.{Image}
use Rattle.ldconfig_core.proofs.WrittenSlots.{slots_are, written_slots}
use Rattle.ldconfig_core.specs.declared.fault.UpdateFault.{UpdateFault}
use Rattle.ldconfig_core.specs.declared.fault.UpdateFault.TheVariants as faults
use Rattle.ldconfig_core.specs.declared.report.Report.{Report}
use Rattle.ldconfig_core.specs.Repair.{slots_after}
use Rattle.ldconfig_core.specs.Texts.{AreTextsOf, UpdateTexts, writes_of}
use Rattle.ldconfig_core.specs.Update.{IsUpdated, Updates, update_ending}
use Rattle.image_session.specs.Session.{Loaded}
use Rattle.atomic_replace.specs.OneByOne.{calls_of}
use Rattle.library_search.specs.Begun.{lacks_file, update_bytes}
use Rattle.tree_face.proofs.Follows.{part_whole}
use Rattle.tree_face.proofs.Known.{relates_by}
use Rattle.tree_face.specs.Disk.{DiskContent, DiskState, KeepsAll}
use Rattle.tree_face.specs.Follows.{IsFollowedBy, IsFollowedByPart}
use Rattle.tree_face.specs.Known.{IfKnown, Relates}
use Rattle.tree_face.specs.Store.{Contents, StoreState}
use Rattle.tree_face.specs.StoreUse.{BeginsKeys, Complete, DeviceFailed, Ending, GaveUp, ReadsFiles}
use Rattle.tree_face.specs.declared.disk.DoneCall.{DoneCall}
use Rattle.tree_face.specs.declared.disk.Slot.{Slot}
use Rattle.tree_face.specs.declared.disk.Slot.TheVariants.{Cache}
use Rattle.sample_runs.specs.declared.fault.SampleFault.{SampleFault}
use Rattle.sample_runs.specs.declared.fault.SampleFault.TheVariants.{DiskFault, NoMemory, StoreFault}
use Rattle.sample_runs.specs.declared.updates.SampleUpdate.{SampleUpdate}
use Rattle.sample_runs.specs.Faults.{of_update}
use Rattle.sample_runs.specs.Updates.{Goes, IsUpdateOf, ReadFails, UpdateFails, UpdatesTo, UsesPart, keys_of, sample_tag}
use Rattle.lib_types.proofs.Counts.{risen_since}

-- ---- counts

-- ---- what is read

-- nothing is read
pub none_follow : {A : Type 0} (items : List A) (a b : Option (List A)) → b ≡ a → Relates (IsFollowedByPart items) a b
none_follow items None None e = tt
none_follow items None (Some b) e = absurd (cc)
none_follow items (Some a) None e = absurd (cc)
none_follow {A} items (Some a) (Some b) e = (0, ap (λ (o : Option (List A)). or_else b o) e ∙ sym (append-nil a))
  where
    or_else : List A → Option (List A) → List A
    or_else other None = other
    or_else other (Some items) = items

-- all keys are opened, which is a prefix of them
pub all_begun : (keys : Contents → List (List ℕ)) (a b : Option (List (List ℕ))) (known : Option Contents) → IfKnown known (λ held. Relates (IsFollowedBy (keys held)) a b)
    → IfKnown known (λ held. Relates (IsFollowedByPart (keys held)) a b)
all_begun keys a b None begun = tt
all_begun keys a b (Some held) begun = relates_by (IsFollowedBy (keys held)) (IsFollowedByPart (keys held)) (part_whole (keys held)) a b begun

-- ---- one update

-- the files hold what the writes of these texts leave
abbrev pub Leaves : UpdateTexts → DiskContent → DiskContent → Type 0
Leaves texts a b = b.now ≡ slots_after (writes_of texts) a.now

cache_is : (texts : UpdateTexts) (cache : List ℕ) (a b : Option DiskContent) → Relates (Leaves texts) a b → IfKnown b (λ known. known.now.cache ≡ Some cache) → IfKnown a (λ _. cache ≡ texts.cache)
cache_is texts cache None b leaves is = tt
cache_is texts cache (Some a) None leaves is = absurd leaves
cache_is texts cache (Some a) (Some b) leaves is =
    let same : Some cache ≡ Some texts.cache = sym is ∙ ap (λ s. s.cache) (leaves ∙ written_slots texts a.now) in cc

module _ (s : Loaded) (store after_store : StoreState) (disk middle after_disk : DiskState) where
  module _ (updated : Loaded) (report : Report) (u : Updates Image sample_tag s (Ok (updated, report)) store after_store disk middle) (keeps : KeepsAll middle after_disk)
      (cache : List ℕ) (read : IfKnown middle.contents (λ known. known.now.cache ≡ Some cache)) (no_fault : after_disk.faults ≡ middle.faults)
      (reads : Relates (IsFollowedBy (Cache ∷ [])) middle.reads after_disk.reads) where
    abbrev numbers : SampleUpdate
    numbers = record { libs = report.libs; links = report.links; opened = report.opened; cache = cache }

    abbrev texts : UpdateTexts
    texts = u.written.texts

    leaves : Relates (Leaves texts) disk.contents middle.contents
    leaves = relates_by _ _ (slots_are 0 (writes_of texts)) _ _ u.written.written.contents

    by_held : (known : Option Contents) → IfKnown known (λ held. AreTextsOf Image held s texts) → IfKnown known (λ held. IsUpdated Image held s (updated, report))
        → IfKnown known (λ held. IsUpdateOf held s texts (updated, numbers))
    by_held None are is = tt
    by_held (Some held) are is = record {
      texts_are = are;
      image_is = is.planned;
      numbers = record { libs = is.report.libs; links = is.report.links; opened = is.report.opened };
    }

    begins : (known : Option Contents) → store.held ≡ known → IfKnown known (λ held. Relates (IsFollowedBy (keys_of held s)) store.keys after_store.keys)
    begins None is = tt
    begins (Some held) is =
        let reads = subst (λ (known : Option Contents). IfKnown known
        (λ held. ReadsFiles (lacks_file Image held s.tree s.stamps ≡ true) (Some (keys_of held s)) (Some (update_bytes Image held s.tree s.stamps)) Complete store after_store)) is u.reads.keys in
        reads.begins

    -- the update is made, and then the cache is read
    pub is_updated : UpdatesTo s (updated, numbers) store after_store disk after_disk
    is_updated = record {
      texts = texts;
      slots = subst (λ (c : Option DiskContent). Relates (Leaves texts) disk.contents c) (sym keeps.contents) leaves;
      calls = subst (λ (c : Option (List DoneCall)). Relates (IsFollowedBy (calls_of sample_tag (writes_of texts))) disk.calls c) (sym keeps.calls) u.written.written.calls;
      cache = cache_is texts cache disk.contents middle.contents leaves read;
      update = by_held store.held u.written.are.are_of u.updated;
      begins = begins store.held refl;
      reads = subst (λ (r : Option (List Slot)). Relates (IsFollowedBy (Cache ∷ [])) r after_disk.reads) u.written.written.reads reads;
      none_rise = record { store_faults = u.reads.any.cause; disk_faults = no_fault ∙ u.written.written.faults };
    }

  -- the update isn't made
  pub is_failed : (fault : UpdateFault) → Updates Image sample_tag s (Err fault) store after_store disk middle → UpdateFails s (of_update fault) store after_store disk middle
  is_failed faults.StoreFault u = u.reads.any.cause
  is_failed (faults.DiskFault fault) u = u.written.written.faults
  is_failed (faults.TooLarge nodes bytes) u = record { store_faults = u.reads.any.cause; disk_faults = ap (λ (d : DiskState). d.faults) u.written }
  is_failed (faults.TooMany count) u = record { store_faults = u.reads.any.cause; disk_faults = ap (λ (d : DiskState). d.faults) u.written }
  is_failed faults.NoMemory u = record { store_faults = u.reads.any.cause; disk_faults = ap (λ (d : DiskState). d.faults) u.written }

  -- the cache can't be read
  pub is_unread : (updated : Loaded × Report) → Updates Image sample_tag s (Ok updated) store after_store disk middle → (fault : SampleFault) → ReadFails fault middle after_disk
      → UpdateFails s fault store after_store disk after_disk
  is_unread updated u StoreFault failed = absurd failed
  is_unread updated u DiskFault failed = risen_since disk.faults middle.faults after_disk.faults u.disk_faults failed
  is_unread updated u NoMemory same = record { store_faults = u.reads.any.cause; disk_faults = same ∙ u.written.written.faults }

  -- the contents of the store don't change, and no count falls
  pub goes_on : (result : Result (Loaded × Report) UpdateFault) → Updates Image sample_tag s result store after_store disk middle → middle.faults ≤ after_disk.faults → Goes store after_store disk after_disk
  goes_on result u read = record { held = u.reads.any.held; store_faults = u.reads.any.faults; disk_faults = omega (arith, u.disk_faults, read) }

  -- ---- what is read, if the update isn't made or the cache can't be read

  stops_by : (e : Ending) (known : Option Contents) → IfKnown known (λ held. Relates (BeginsKeys e (keys_of held s)) store.keys after_store.keys)
      → IfKnown known (λ held. Relates (IsFollowedByPart (keys_of held s)) store.keys after_store.keys)
  stops_by e None begins = tt
  stops_by Complete (Some held) begins = all_begun (λ held. keys_of held s) store.keys after_store.keys (Some held) begins
  stops_by DeviceFailed (Some held) begins = begins
  stops_by GaveUp (Some held) begins = begins

  begins_by : (e : Ending) (known : Option Contents) → IfKnown known (λ held.
      ReadsFiles (lacks_file Image held s.tree s.stamps ≡ true) (Some (keys_of held s)) (Some (update_bytes Image held s.tree s.stamps)) e store after_store)
      → IfKnown known (λ held. Relates (BeginsKeys e (keys_of held s)) store.keys after_store.keys)
  begins_by e None reads = tt
  begins_by e (Some held) reads = reads.begins

  no_reads : (fault : UpdateFault) → Updates Image sample_tag s (Err fault) store after_store disk middle → middle.reads ≡ disk.reads
  no_reads faults.StoreFault u = ap (λ (d : DiskState). d.reads) u.written
  no_reads (faults.DiskFault fault) u = u.written.written.reads
  no_reads (faults.TooLarge nodes bytes) u = ap (λ (d : DiskState). d.reads) u.written
  no_reads (faults.TooMany count) u = ap (λ (d : DiskState). d.reads) u.written
  no_reads faults.NoMemory u = ap (λ (d : DiskState). d.reads) u.written

  pub stops : (fault : UpdateFault) → Updates Image sample_tag s (Err fault) store after_store disk middle → UsesPart (λ held. keys_of held s) (Cache ∷ []) store after_store disk middle
  stops fault u = record {
    begins = stops_by (update_ending {A = Loaded × Report} (Err fault)) store.held (begins_by (update_ending {A = Loaded × Report} (Err fault)) store.held u.reads.keys);
    reads = none_follow (Cache ∷ []) disk.reads middle.reads (no_reads fault u);
  }

  pub stops_reading : (updated : Loaded × Report) → Updates Image sample_tag s (Ok updated) store after_store disk middle → Relates (IsFollowedByPart (Cache ∷ [])) middle.reads after_disk.reads
      → UsesPart (λ held. keys_of held s) (Cache ∷ []) store after_store disk after_disk
  stops_reading updated u part = record {
    begins = stops_by Complete store.held (begins_by Complete store.held u.reads.keys);
    reads = subst (λ (r : Option (List Slot)). Relates (IsFollowedByPart (Cache ∷ [])) r after_disk.reads) u.written.written.reads part;
  }
