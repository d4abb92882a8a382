-- How an update and a check of a directory end, from the contracts of their parts.
use Rattle.std.proofs.Common.{inl, inr, Result, Ok, Err}
use Rattle.std.specs.Prelude.{OnOk}
use Rattle.command_status.specs.declared.status.Status.{Status}
use Rattle.root_answers.proofs.Checked.{fails_reading, is_checked}
use Rattle.root_answers.proofs.First.{fails_first}
use Rattle.root_answers.proofs.Updated.{is_updated, risen}
use Rattle.root_answers.specs.Check.{CheckEnds}
use Rattle.root_answers.specs.Ending.{EndsCheck, EndsUpdate}
use Rattle.root_answers.specs.Run.{RunStates}
use Rattle.root_answers.specs.Update.{UpdateEnds}
use Rattle.root_answers.specs.declared.runs.RootAsked.{RootAsked}
use Rattle.root_update.specs.Check.{ChecksRoot}
use Rattle.root_update.specs.Update.{LeavesPlanned, UpdatesRoot}
use Rattle.root_update.specs.declared.checking.RootChanges.{RootChanges}
use Rattle.root_update.specs.declared.fault.RootFault.{RootFault}
use Rattle.root_update.specs.declared.fault.RootFault.TheVariants as faults
use Rattle.root_update.specs.declared.updating.Updated.{Updated}

module _ (asked : RootAsked) (status : Status) (old new : RunStates) where
  pub update_ends : (outcome : Result Updated RootFault) → UpdatesRoot asked.parts.now asked.tag outcome old.files new.files
      → OnOk outcome (LeavesPlanned asked.parts.now old.files new.files) → EndsUpdate asked.shown outcome status old.sink new.sink → UpdateEnds asked status old new
  update_ends (Ok updated) is planned ends = inr (inr (record { updated = updated; is = is_updated asked old.files new.files updated is planned; output = ends }))
  update_ends (Err (faults.Write fault)) is planned ends =
      inr (inl (record { status_is = ends.0; fault = fault; written = is; cause = risen asked old.files new.files fault is; output = ends.1 }))
  update_ends (Err (faults.Slot fault)) is planned ends = inl (fails_first asked.parts.now old new (faults.Slot fault) status is ends)
  update_ends (Err (faults.Tree fault)) is planned ends = inl (fails_first asked.parts.now old new (faults.Tree fault) status is ends)
  update_ends (Err (faults.Update fault)) is planned ends = inl (fails_first asked.parts.now old new (faults.Update fault) status is ends)

  pub check_ends : (outcome : Result RootChanges RootFault) → ChecksRoot asked.parts.now outcome old.files new.files
      → EndsCheck asked.shown outcome status old.sink new.sink → CheckEnds asked status old new
  check_ends (Ok changes) is ends = inr (record { changes = changes; is = is_checked asked changes old.files new.files is; output = ends })
  check_ends (Err (faults.Slot fault)) (inl is) ends = inl (fails_first asked.parts.now old new (faults.Slot fault) status is ends)
  check_ends (Err (faults.Slot fault)) (inr is) ends = inl (fails_reading asked.parts.now old new fault status is ends)
  check_ends (Err (faults.Tree fault)) is ends = inl (fails_first asked.parts.now old new (faults.Tree fault) status is ends)
  check_ends (Err (faults.Update fault)) is ends = inl (fails_first asked.parts.now old new (faults.Update fault) status is ends)
  check_ends (Err (faults.Write fault)) is ends = absurd is
