-- The command `update`. It does what a script of the single line `update` does with the session in the files.
use Rattle.std.specs.Prelude.{◌≡◌}
use Rattle.tree_face.specs.Devices.{DeviceStates}
use Rattle.tree_face.specs.Stream.{SinkState}
use Rattle.tree_face.specs.declared.disk.Tag.{Tag}
use Rattle.command_status.specs.Status.{EndsWith}
use Rattle.command_status.specs.declared.status.Status.{Status}
use Rattle.script_runs.specs.Batch.{states_of}
use Rattle.script_runs.specs.Stored.{RunsStored, StoredFacts, one_update}

pub record UpdateRun (tag : Tag) (old new : DeviceStates) (status : Status) : Type 0 where
  -- the output before the fault line
  pub before : SinkState
  pub runs : RunsStored tag one_update status (states_of old old.sink) (states_of new before)
  pub line : EndsWith status before new.sink
  pub facts : StoredFacts tag one_update status (states_of old old.sink) (states_of new before)
  pub source : new.source ≡ old.source
