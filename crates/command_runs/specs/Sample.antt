-- The command `sample`, which works in memory and writes only to the output.
use Rattle.std.specs.Prelude.{◌≡◌, ℕ}
use Rattle.command_status.specs.declared.status.Status.{Status}
use Rattle.tree_face.specs.Devices.{DeviceStates}
use Rattle.sample_runs.specs.Run.{RunEnds}

pub record SampleRun (n : ℕ) (old new : DeviceStates) (status : Status) : Type 0 where
  pub ends : RunEnds n status old.sink new.sink
  pub store : new.store ≡ old.store
  pub disk : new.disk ≡ old.disk
  pub source : new.source ≡ old.source
