-- One update of a loaded image: its result, and its effect on the store and the disk.
use Rattle.std.specs.Prelude.{◌≡◌, ◌⊎◌, ◌≤◌, ◌+◌, length, Option, Some, Result, Ok, Err, IfOk, ⊤}
use Rattle.hwcap_dirs.specs.declared.kinds.Scope.{Scope}
use Rattle.atomic_replace.specs.declared.fault.DiskFault.{DiskFault}
use Rattle.lib_types.specs.Counts.{HasRisen}
use Rattle.tree_face.specs.declared.disk.Tag.{Tag}
use Rattle.tree_face.specs.Disk.{DiskState}
use Rattle.tree_face.specs.Known.{IfKnown}
use Rattle.tree_face.specs.Store.{Contents, StoreState}
use Rattle.tree_face.specs.StoreUse.{Ending, Complete, DeviceFailed, GaveUp}
use Rattle.library_search.specs.Begun.{opened_in, update_keys}
use Rattle.library_search.specs.Laws.{IsInfoRight}
use Rattle.library_search.specs.Found.{ReadsFinding}
use Rattle.ldso_conf.specs.Reading.{conf_keys}
use Rattle.ldconfig_core.specs.declared.fault.UpdateFault.{UpdateFault}
use Rattle.ldconfig_core.specs.declared.fault.UpdateFault.TheVariants as faults
use Rattle.ldconfig_core.specs.declared.report.Report.{Report}
use Rattle.image_session.specs.Aux.{stamps_of_slot}
use Rattle.library_search.specs.Ldconfig.{conf_of, entries_in, links_in, stamps_in}
use Rattle.ldconfig_core.specs.Lookup.{FindsAsSearched}
use Rattle.ldconfig_core.specs.Outcome.{Outcome, Lacking, TooLarge, TooMany, Writes, new_manifest, update_outcome}
use Rattle.atomic_replace.specs.OneByOne.{KeepsRestMade, WritesAll, WritesPart}
use Rattle.image_session.specs.Session.{Loaded}
use Rattle.file_stamps.specs.Stamped.{AreSame, AreTrue, IfReliable}
use Rattle.ldconfig_core.specs.Settled.{AreSettled, IfReads, planned_image}
use Rattle.ldconfig_core.specs.Texts.{AreTexts, AreTextsOf, UpdateTexts, update_slots, writes_of}

-- ---- the results, one row for each

-- the result is that of the outcome, or the store failed, or memory ran out
abbrev pub IsAnswer : {A : Type 0} → Outcome → Result A UpdateFault → StoreState → StoreState → Type 0
IsAnswer outcome (Ok updated) old new = outcome ≡ Writes
IsAnswer outcome (Err faults.StoreFault) old new = HasRisen old.faults new.faults ⊎ (outcome ≡ Lacking)
IsAnswer outcome (Err (faults.TooLarge nodes bytes)) old new = outcome ≡ TooLarge nodes bytes
IsAnswer outcome (Err (faults.TooMany count)) old new = outcome ≡ TooMany count
IsAnswer outcome (Err (faults.DiskFault fault)) old new = outcome ≡ Writes
IsAnswer outcome (Err faults.NoMemory) old new = ⊤

-- how the reading of files ended
abbrev pub update_ending : {A : Type 0} → Result A UpdateFault → Ending
update_ending (Ok updated) = Complete
update_ending (Err faults.StoreFault) = DeviceFailed
update_ending (Err (faults.TooLarge nodes bytes)) = Complete
update_ending (Err (faults.TooMany count)) = Complete
update_ending (Err (faults.DiskFault fault)) = Complete
update_ending (Err faults.NoMemory) = GaveUp

-- ---- the store

-- the update opens exactly these files
abbrev pub ReadsUpdate : Scope → Loaded → Ending → StoreState → StoreState → Type 0
ReadsUpdate scope s ending old new = ReadsFinding scope s.tree s.stamps ending old new

-- ---- the disk

-- a fact about an image, assuming that contents are known, its stamps are true, and equal identities imply equal contents
abbrev pub IfReliably : Option Contents → Loaded → (Contents → Type 0) → Type 0
IfReliably known s P = IfReliable known s.tree s.stamps P

-- the texts of the update of this image, if contents are known
pub record AreUpdateTexts (scope : Scope) (s : Loaded) (known : Option Contents) (texts : UpdateTexts) : Type 0 where
  pub are : AreTexts texts
  pub are_of : IfKnown known (λ held. AreTextsOf scope held s texts)
  pub aux_read : IfKnown known (λ held. stamps_of_slot (Some texts.aux) ≡ stamps_in scope held s.tree s.stamps)
  pub finds : IfKnown known (λ held. FindsAsSearched scope held s.tree s.stamps texts.cache)
  -- the number of opened files: the conf files, and the library files that were opened
  pub counted : IfKnown known (λ held. length (update_keys scope held s.tree s.stamps) ≡ length (conf_keys (conf_of scope) held s.tree) + opened_in scope held s.tree s.stamps)
  -- Assuming that stamps are true and equal identities imply equal contents, all analyses are right. An update without stamps then gives
  -- the same, and the image is settled.
  pub right : IfReliably known s (λ held. IsInfoRight scope held s.tree s.stamps)
  pub settles : IfReliably known s (λ held. AreSettled scope held s (planned_image scope held s))
  pub reads : IfKnown known (λ held. IfReads texts.manifest (planned_image scope held s))

-- the update's texts are written, and this is its report
pub record LeavesTexts (scope : Scope) (tag : Tag) (s : Loaded) (known : Option Contents) (report : Report) (old new : DiskState) : Type 0 where
  pub texts : UpdateTexts
  pub are : AreUpdateTexts scope s known texts
  pub report_is : report.text ≡ texts.report
  pub written : WritesAll tag (writes_of texts) old new

-- a call that writes these texts failed
pub record MayLeaveTexts (scope : Scope) (tag : Tag) (s : Loaded) (known : Option Contents) (fault : DiskFault) (old new : DiskState) : Type 0 where
  pub texts : UpdateTexts
  pub are : AreUpdateTexts scope s known texts
  pub written : WritesPart tag (writes_of texts) fault old new

-- Writing begins only after all texts were built.
abbrev pub DiskAfter : Scope → Tag → Loaded → Option Contents → Result (Loaded × Report) UpdateFault → DiskState → DiskState → Type 0
DiskAfter scope tag s known (Ok updated) old new = LeavesTexts scope tag s known updated.1 old new
DiskAfter scope tag s known (Err (faults.DiskFault fault)) old new = MayLeaveTexts scope tag s known fault old new
DiskAfter scope tag s known (Err faults.StoreFault) old new = new ≡ old
DiskAfter scope tag s known (Err (faults.TooLarge nodes bytes)) old new = new ≡ old
DiskAfter scope tag s known (Err (faults.TooMany count)) old new = new ≡ old
DiskAfter scope tag s known (Err faults.NoMemory) old new = new ≡ old

-- ---- the updated image

-- the numbers in the report are those of the update
pub record IsReportFor (scope : Scope) (held : Contents) (s : Loaded) (report : Report) : Type 0 where
  pub libs : report.libs ≡ length (entries_in scope held s.tree s.stamps)
  pub links : report.links ≡ length (links_in scope held s.tree s.stamps)
  pub opened : report.opened ≡ opened_in scope held s.tree s.stamps

-- a fact about an image, assuming that its stamps are true and equal identities imply equal contents
abbrev pub IfReliableIn : Contents → Loaded → Type 0 → Type 0
IfReliableIn held s P = AreTrue held s.tree s.stamps → AreSame held s.tree s.tree → P

-- The updated image is the one with the planned links and its stamps. A written manifest reads as its tree.
pub record IsUpdated (scope : Scope) (held : Contents) (s : Loaded) (updated : Loaded × Report) : Type 0 where
  pub planned : updated.0 ≡ planned_image scope held s
  pub reads : IfReads (new_manifest scope held s) updated.0
  pub report : IsReportFor scope held s updated.1
  pub settled : IfReliableIn held s (AreSettled scope held s updated.0)

-- ---- one update

pub record Updates (scope : Scope) (tag : Tag) (s : Loaded) (result : Result (Loaded × Report) UpdateFault) (store after_store : StoreState) (disk after_disk : DiskState) : Type 0 where
  pub answers : IfKnown store.held (λ held. IsAnswer (update_outcome scope held s) result store after_store)
  pub reads : ReadsUpdate scope s (update_ending result) store after_store
  pub written : DiskAfter scope tag s store.held result disk after_disk
  pub made : KeepsRestMade tag.0 update_slots disk after_disk
  pub disk_faults : disk.faults ≤ after_disk.faults
  pub updated : IfOk result (λ updated. IfKnown store.held (λ held. IsUpdated scope held s updated))
