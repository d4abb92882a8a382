-- The command `batch`. It reads its input to the end, and runs the script in it on the session in the files.
use Rattle.std.specs.Prelude.{◌≡◌, ℕ, Vec, Result, Ok, Err, IfOk}
use Rattle.std.specs.declared.alloc.Global.{Global}
use Rattle.tree_face.specs.Devices.{DeviceStates}
use Rattle.tree_face.specs.Stream.{ReadsAll, SinkState, SourceState}
use Rattle.tree_face.specs.declared.disk.Tag.{Tag}
use Rattle.tree_face.specs.declared.stream.ReadFault.{ReadFault}
use Rattle.tree_face.specs.declared.stream.ReadFault.TheVariants as reading
use Rattle.command_status.specs.Status.{EndsWith}
use Rattle.command_status.specs.declared.status.Status.{Status}
use Rattle.command_status.specs.declared.status.Status.TheVariants.{InputFault, NoMemory, TooLong}
use Rattle.update_runs.specs.Update.{States, states}
use Rattle.script_runs.specs.Run.{lines_of}
use Rattle.script_runs.specs.Stored.{RunsStored, StoredFacts}
use Rattle.script_runs.specs.declared.batch.TheConstants.{SCRIPT_MAX}

-- the status when the input can't be read to its end
abbrev pub of_read : ReadFault → Status
of_read (reading.TooLong taken) = TooLong taken
of_read reading.InputFault = InputFault
of_read reading.NoMemory = NoMemory

-- the states of the devices that an update works on, with this output
abbrev pub states_of : DeviceStates → SinkState → States
states_of devices sink = states devices.store devices.disk sink

-- if the input can't be read to its end, nothing is done
abbrev pub AfterInput : Tag → Result (Vec ℕ Global) ReadFault → Status → States → States → Type 0
AfterInput tag (Ok text) status old new = RunsStored tag (lines_of text.items) status old new
AfterInput tag (Err fault) status old new = (status ≡ of_read fault) × (new ≡ old)

-- the reading of the input, and then the run of its script
pub record RunsInput (tag : Tag) (status : Status) (source after_source : SourceState) (old new : States) : Type 0 where
  pub script : Result (Vec ℕ Global) ReadFault
  pub reads : ReadsAll SCRIPT_MAX source after_source script
  pub runs : AfterInput tag script status old new

pub record BatchRun (tag : Tag) (old new : DeviceStates) (status : Status) : Type 0 where
  -- the output before the fault line
  pub before : SinkState
  pub runs : RunsInput tag status old.source new.source (states_of old old.sink) (states_of new before)
  pub line : EndsWith status before new.sink
  pub facts : IfOk runs.script (λ text. StoredFacts tag (lines_of text.items) status (states_of old old.sink) (states_of new before))
