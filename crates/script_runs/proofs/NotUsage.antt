-- No update and no script ends with the status of invalid arguments.
use Rattle.std.proofs.Common.{◌≡◌, List, ℕ, Result, Ok, Err, Vec, Global, sym, ◌∙◌}
use Rattle.image_session.specs.Session.{Loaded}
use Rattle.image_session.specs.declared.fault.LoadFault.{LoadFault}
use Rattle.image_session.specs.declared.fault.LoadFault.TheVariants as loading
use Rattle.ldconfig_core.specs.declared.fault.UpdateFault.{UpdateFault}
use Rattle.ldconfig_core.specs.declared.fault.UpdateFault.TheVariants as updating
use Rattle.tree_face.specs.Stream.{SourceState}
use Rattle.tree_face.specs.declared.disk.Tag.{Tag}
use Rattle.tree_face.specs.declared.stream.ReadFault.{ReadFault}
use Rattle.tree_face.specs.declared.stream.ReadFault.TheVariants as reading
use Rattle.command_status.specs.declared.status.Status.{Status}
use Rattle.command_status.specs.declared.status.Status.TheVariants.{Usage}
use Rattle.command_status.specs.Status.{of_load, of_update}
use Rattle.update_runs.specs.Update.{States}
use Rattle.update_runs.specs.declared.fault.UpdatingFault.TheVariants.{OutputFault, Update}
use Rattle.script_runs.specs.declared.fault.ScriptFault.{ScriptFault}
use Rattle.script_runs.specs.declared.fault.ScriptFault.TheVariants.{Line, NoMemory, Updating}
use Rattle.script_runs.specs.Batch.{AfterInput, RunsInput, of_read}
use Rattle.script_runs.specs.Faults.{status_of}
use Rattle.script_runs.specs.Stored.{AfterLoad, RunsStored}

load_else : (fault : LoadFault) → of_load fault ≡ Usage → ⊥
load_else (loading.DiskFailed slot) e = absurd (cc)
load_else loading.NoManifest e = absurd (cc)
load_else (loading.BadManifest fault) e = absurd (cc)
load_else loading.NoMemory e = absurd (cc)

update_else : (fault : UpdateFault) → of_update fault ≡ Usage → ⊥
update_else updating.StoreFault e = absurd (cc)
update_else (updating.TooLarge nodes bytes) e = absurd (cc)
update_else (updating.TooMany count) e = absurd (cc)
update_else (updating.DiskFault fault) e = absurd (cc)
update_else updating.NoMemory e = absurd (cc)

script_else : (to : Result Loaded ScriptFault) → status_of to ≡ Usage → ⊥
script_else (Ok session) e = absurd (cc)
script_else (Err (Line number kind)) e = absurd (cc)
script_else (Err (Updating (Update fault))) e = update_else fault e
script_else (Err (Updating OutputFault)) e = absurd (cc)
script_else (Err NoMemory) e = absurd (cc)

read_else : (fault : ReadFault) → of_read fault ≡ Usage → ⊥
read_else (reading.TooLong taken) e = absurd (cc)
read_else reading.InputFault e = absurd (cc)
read_else reading.NoMemory e = absurd (cc)

pub after_else : (tag : Tag) (lines : List (List ℕ)) (loaded : Result Loaded LoadFault) (status : Status) (old new : States) → AfterLoad tag lines loaded status old new → status ≡ Usage → ⊥
after_else tag lines (Ok s) status old new (to, (is, runs)) e = script_else to (sym is ∙ e)
after_else tag lines (Err fault) status old new (is, same) e = load_else fault (sym is ∙ e)

pub no_usage_stored : (tag : Tag) (lines : List (List ℕ)) (status : Status) (old new : States) → RunsStored tag lines status old new → status ≡ Usage → ⊥
no_usage_stored tag lines status old new run = after_else tag lines run.loaded status (record old { disk = run.between }) new run.after

pub no_usage_input : (tag : Tag) (status : Status) (source after_source : SourceState) (old new : States) → RunsInput tag status source after_source old new → status ≡ Usage → ⊥
no_usage_input tag status source after_source old new run = by run.script run.runs
  where
    by : (script : Result (Vec ℕ Global) ReadFault) → AfterInput tag script status old new → status ≡ Usage → ⊥
    by (Ok text) after e = no_usage_stored tag _ status old new after e
    by (Err fault) after e = read_else fault (sym after.0 ∙ e)
