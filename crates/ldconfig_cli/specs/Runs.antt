-- What a run does, from its arguments.
use Rattle.std.specs.Prelude.{◌≡◌, ◌↔◌, ◌≢◌, ◌⊎◌, ℕ, List, map, Option, Some, None, String, Vec}
use Rattle.std.specs.declared.alloc.Global.{Global}
use Rattle.std.specs.String.{string_bytes}
use Rattle.command_runs.specs.Commands.{RunsCommand}
use Rattle.command_status.specs.declared.status.Status.{Status}
use Rattle.command_status.specs.declared.status.Status.TheVariants.{NoMemory, Usage}
use Rattle.tree_face.specs.Devices.{DeviceStates, states}
use Rattle.command_words.specs.Language.{verb_in}
use Rattle.command_words.specs.Words.{command_in}
use Rattle.command_words.specs.declared.kinds.Command.{Command}
use Rattle.tree_face.specs.Disk.{DiskState}
use Rattle.tree_face.specs.Store.{StoreState}
use Rattle.tree_face.specs.Stream.{SinkState, SourceState}
use Rattle.ldconfig_cli.specs.Usage.{UsageRun}

-- this command is run, or the arguments are rejected
abbrev pub RunsAny : Option Command → Status → DeviceStates → DeviceStates → Type 0
RunsAny (Some command) status old new = RunsCommand command status old new
RunsAny None status old new = UsageRun old new status

-- the run of the command that the arguments name, if they name one
pub record RunsArguments (command : Option Command) (status : Status) (old new : DeviceStates) : Type 0 where
  pub usage : (status ≡ Usage) ↔ (command ≡ None)
  pub runs : RunsAny command status old new

-- memory ran out while the arguments after the first were read, and nothing was done
pub record GivesUp (words : List (List ℕ)) (status : Status) (old new : DeviceStates) : Type 0 where
  pub named : verb_in words ≢ None
  pub status_is : status ≡ NoMemory
  pub devices : new ≡ old

abbrev pub texts_of : Vec (String Global) Global → List (List ℕ)
texts_of arguments = map string_bytes arguments.items

-- the command of these arguments takes the devices from the first states to the second ones, unless memory runs out before
abbrev pub Runs : {S D I O : Type 0} → (S → StoreState) → (D → DiskState) → (I → SourceState) → (O → SinkState) → Vec (String Global) Global → Status
    → S × (D × (I × O)) → S × (D × (I × O)) → Type 0
Runs store disk input output arguments status old new =
    let before = states (store old.0) (disk old.1.0) (input old.1.1.0) (output old.1.1.1) in
    let after = states (store new.0) (disk new.1.0) (input new.1.1.0) (output new.1.1.1) in
    GivesUp (texts_of arguments) status before after ⊎ RunsArguments (command_in (texts_of arguments)) status before after
