-- Why a script ends, from the faults of its lines.
use Rattle.std.specs.Prelude.{ℕ, Result, Ok, Err}
use Rattle.image_session.specs.Session.{Loaded}
use Rattle.image_session.specs.declared.fault.EditFault.{EditFault}
use Rattle.image_session.specs.declared.fault.EditFault.TheVariants as editing
use Rattle.command_status.specs.declared.status.ScriptKind.TheVariants as script
use Rattle.command_status.specs.declared.status.Status.{Status}
use Rattle.command_status.specs.declared.status.Status.TheVariants as statuses
use Rattle.update_runs.specs.Update.{of_updating}
use Rattle.update_runs.specs.declared.fault.UpdatingFault.{UpdatingFault}
use Rattle.script_runs.specs.declared.fault.LineFault.{LineFault}
use Rattle.script_runs.specs.declared.fault.LineFault.TheVariants as lines
use Rattle.script_runs.specs.declared.fault.ScriptFault.{ScriptFault}
use Rattle.script_runs.specs.declared.fault.ScriptFault.TheVariants.{Line, Updating, NoMemory}

-- why an edit isn't made
abbrev pub of_edit : EditFault → LineFault
of_edit (editing.Bad kind) = lines.Bad (script.Bad kind)
of_edit editing.Clash = lines.Bad script.Clash
of_edit editing.NotThere = lines.Bad script.NotThere
of_edit editing.Full = lines.Bad script.Full
of_edit editing.NoMemory = lines.NoMemory

abbrev pub edited : Result Loaded EditFault → Result Loaded LineFault
edited (Ok session) = Ok session
edited (Err fault) = Err (of_edit fault)

abbrev pub updated : Result Loaded UpdatingFault → Result Loaded LineFault
updated (Ok session) = Ok session
updated (Err fault) = Err (lines.Updating fault)

-- the fault of a script at the line with this number
abbrev pub numbered : ℕ → LineFault → ScriptFault
numbered number (lines.Bad kind) = Line number kind
numbered number (lines.Updating fault) = Updating fault
numbered number lines.NoMemory = NoMemory

-- the status of a command that ends with this fault
abbrev pub of_script : ScriptFault → Status
of_script (Line number kind) = statuses.BadScript number kind
of_script (Updating fault) = of_updating fault
of_script NoMemory = statuses.NoMemory

abbrev pub status_of : Result Loaded ScriptFault → Status
status_of (Ok session) = statuses.Done
status_of (Err fault) = of_script fault
