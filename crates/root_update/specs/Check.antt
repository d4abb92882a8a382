-- What an update of a directory would change. Nothing is written.
use Rattle.std.specs.Prelude.{◌≡◌, ◌⊎◌, ◌∷◌, ◌++◌, ◌&&◌, ◌||◌, ◌==◌, ℕ, Bool, true, false, List, [], length, not, if◌then◌else◌, Some, Result, Ok, Err}
use Rattle.command_status.specs.declared.status.Status.{Status}
use Rattle.command_status.specs.declared.status.Status.TheVariants.{Done, Missing}
use Rattle.image_session.specs.Reading.{ReadsContent}
use Rattle.image_session.specs.Session.{Loaded}
use Rattle.image_session.specs.declared.fault.SlotFault.{SlotFault}
use Rattle.ldconfig_core.specs.Texts.{UpdateTexts}
use Rattle.link_plan.specs.declared.kinds.Planned.{Planned}
use Rattle.root_update.specs.Made.{MakesNone, MakesRoot, RootStates, root_states}
use Rattle.root_update.specs.Update.{IsOutcomeOf}
use Rattle.root_update.specs.declared.checking.RootChanges.{RootChanges}
use Rattle.root_update.specs.declared.fault.RootFault.{RootFault}
use Rattle.root_update.specs.declared.fault.RootFault.TheVariants as faults
use Rattle.root_update.specs.declared.parts.AuxUse.{AuxUse}
use Rattle.root_update.specs.declared.parts.AuxUse.TheVariants as uses
use Rattle.root_update.specs.declared.parts.RootParts.{RootParts}
use Rattle.root_update.specs.declared.updating.Updated.{Updated}
use Rattle.tree_face.specs.Disk.{DiskState, content_eq}
use Rattle.tree_face.specs.DiskUse.{ReadsOnly}
use Rattle.tree_face.specs.Known.{IfKnown}
use Rattle.tree_face.specs.StoreUse.{Complete}
use Rattle.tree_face.specs.declared.disk.Slot.{Slot}
use Rattle.tree_face.specs.declared.disk.Slot.TheVariants.{Aux, Cache}

-- the files that are read: the auxiliary cache if it is used, then the existing cache if one is requested
abbrev pub aux_slots : AuxUse → List Slot
aux_slots uses.Unused = []
aux_slots uses.Replaced = []
aux_slots uses.Updated = Aux ∷ []

abbrev pub slots_checked : RootParts → List Slot
slots_checked parts = aux_slots parts.aux ++ (if parts.cache then Cache ∷ [] else [])

-- the report, links and search directories of a check, as those of an update
abbrev pub report_input_of : RootChanges → Updated
report_input_of changes = record { report = changes.report; links = changes.links; looked = changes.looked }

-- Everything is made as for an update and compared with what exists: which links are missing, and whether the cache differs.
pub record FindsChanges (parts : RootParts) (changes : RootChanges) (old new : RootStates) : Type 0 where
  pub image : Loaded
  pub plan : List Planned
  pub texts : UpdateTexts
  -- the disk when everything was made
  pub disk : DiskState
  pub makes : MakesRoot parts.scope parts.aux image plan texts old (root_states new.folder new.store disk)
  pub info : IsOutcomeOf parts old.store.held image plan texts (report_input_of changes)
  pub cache_is : IfKnown old.disk.contents (λ c. changes.cache ≡ (parts.cache && not (content_eq c.now.cache (Some texts.cache))))
  pub reads : ReadsOnly (slots_checked parts) Complete old.disk new.disk

-- everything is made, but the existing cache can't be read
pub record ReadsNoCache (parts : RootParts) (fault : SlotFault) (old new : RootStates) : Type 0 where
  pub asked : parts.cache ≡ true
  pub image : Loaded
  pub plan : List Planned
  pub texts : UpdateTexts
  pub disk : DiskState
  pub makes : MakesRoot parts.scope parts.aux image plan texts old (root_states new.folder new.store disk)
  pub reads : ReadsContent Cache (Err fault) disk new.disk

abbrev pub ChecksRoot : RootParts → Result RootChanges RootFault → RootStates → RootStates → Type 0
ChecksRoot parts (Ok changes) old new = FindsChanges parts changes old new
ChecksRoot parts (Err (faults.Slot fault)) old new = MakesNone parts.scope parts.aux (faults.Slot fault) old new ⊎ ReadsNoCache parts fault old new
ChecksRoot parts (Err (faults.Tree fault)) old new = MakesNone parts.scope parts.aux (faults.Tree fault) old new
ChecksRoot parts (Err (faults.Update fault)) old new = MakesNone parts.scope parts.aux (faults.Update fault) old new
ChecksRoot parts (Err (faults.Write fault)) old new = ⊥

-- ---- the status

-- a link would be made, or the cache would change
abbrev pub would_change : RootChanges → Bool
would_change changes = changes.cache || not (length changes.links == 0)

abbrev pub status_of_changes : RootChanges → Status
status_of_changes changes = if would_change changes then Missing else Done

-- ---- what private functions say

-- if a cache is requested, the existing one is read and compared with this one
abbrev pub Compares : Bool → List ℕ → Result Bool SlotFault → DiskState → DiskState → Type 0
Compares true cache (Ok differs) old new = IfKnown old.contents (λ c. differs ≡ not (content_eq c.now.cache (Some cache))) × ReadsOnly (Cache ∷ []) Complete old new
Compares true cache (Err fault) old new = ReadsContent Cache (Err fault) old new
Compares false cache (Ok differs) old new = (differs ≡ false) × (new ≡ old)
Compares false cache (Err fault) old new = ⊥
