-- Arguments that are not a command.
use Rattle.std.specs.Prelude.{◌≡◌}
use Rattle.tree_face.specs.Devices.{DeviceStates}
use Rattle.command_status.specs.Status.{EndsWith}
use Rattle.command_status.specs.declared.status.Status.{Status}
use Rattle.command_status.specs.declared.status.Status.TheVariants.{Usage}

-- only the fault line is written, and nothing is read
pub record UsageRun (old new : DeviceStates) (status : Status) : Type 0 where
  pub status_is : status ≡ Usage
  pub store : new.store ≡ old.store
  pub disk : new.disk ≡ old.disk
  pub source : new.source ≡ old.source
  pub sink : EndsWith Usage old.sink new.sink
