-- A command leaves the temporary files of another tag as they are.
use Rattle.std.proofs.Common.{◌≡◌, [], Result, Ok, Err, refl, ap, ◌∙◌, inl, inr}
use Rattle.tree_face.specs.Devices.{DeviceStates}
use Rattle.tree_face.specs.declared.disk.Slot.{Slot}
use Rattle.tree_face.specs.declared.disk.Tag.{Tag}
use Rattle.image_session.specs.declared.fault.LoadFault.{LoadFault}
use Rattle.image_session.specs.Session.{Loaded}
use Rattle.command_status.specs.declared.status.Status.{Status}
use Rattle.update_runs.specs.Update.{States}
use Rattle.script_runs.specs.declared.fault.LineFault.{LineFault}
use Rattle.script_runs.specs.declared.fault.ScriptFault.{ScriptFault}
use Rattle.script_runs.specs.Run.{GoesOn, RunsLines}
use Rattle.script_runs.specs.Stored.{AfterLoad, RunsStored, one_update}
use Rattle.script_runs.specs.UpdateCommand.{UpdateRun}

-- the tag of an update
abbrev own : Tag
own = record { 0 = 0 }

-- a script of one update
lines_keep : (s : Loaded) (to : Result Loaded ScriptFault) (old new : States) (slot : Slot) → RunsLines own 1 one_update s to old new → new.disk.made 1 slot ≡ old.disk.made 1 slot
lines_keep s to old new slot (one, (between, (takes, goes))) = ended one goes ∙ elim takes [
  | inl (this, (u, e)) ↦ u.updates.made 1 slot refl
  | inr out ↦ ap (λ (d : States). d.disk.made 1 slot) out.1
]
  where
    ended : (one : Result Loaded LineFault) → GoesOn 1 one (λ session. RunsLines own 2 [] session to between new) to between new → new.disk.made 1 slot ≡ between.disk.made 1 slot
    ended (Ok session) goes = ap (λ (d : States). d.disk.made 1 slot) goes.1
    ended (Err fault) goes = ap (λ (d : States). d.disk.made 1 slot) goes.1

stored_keeps : (status : Status) (old new : States) (slot : Slot) → RunsStored own one_update status old new → new.disk.made 1 slot ≡ old.disk.made 1 slot
stored_keeps status old new slot run = by run.loaded run.after ∙ run.loads.reads.keeps.made 1 slot
  where
    by : (loaded : Result Loaded LoadFault) → AfterLoad own one_update loaded status (record old { disk = run.between }) new → new.disk.made 1 slot ≡ run.between.made 1 slot
    by (Err fault) (is, same) = ap (λ (d : States). d.disk.made 1 slot) same
    by (Ok s) (to, (is, runs)) = lines_keep s to (record old { disk = run.between }) new slot runs

-- an update with the tag 0 keeps the temporary files of the tag 1
pub keeps_other : (status : Status) (old new : DeviceStates) (slot : Slot) → UpdateRun own old new status → new.disk.made 1 slot ≡ old.disk.made 1 slot
keeps_other status old new slot run = stored_keeps status _ _ slot run.runs
