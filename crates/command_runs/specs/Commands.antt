-- What a command does with its values.
use Rattle.command_words.specs.declared.kinds.Command.{Command}
use Rattle.command_words.specs.declared.kinds.Command.TheVariants as commands
use Rattle.command_status.specs.declared.status.Status.{Status}
use Rattle.tree_face.specs.Devices.{DeviceStates}
use Rattle.asking_runs.specs.Lookup.{LookupRun}
use Rattle.asking_runs.specs.Print.{PrintRun}
use Rattle.asking_runs.specs.Resolve.{ResolveRun}
use Rattle.command_runs.specs.Sample.{SampleRun}
use Rattle.layer_runs.specs.Command.{LayersRun}
use Rattle.script_runs.specs.Batch.{BatchRun}
use Rattle.script_runs.specs.UpdateCommand.{UpdateRun}

abbrev pub RunsCommand : Command → Status → DeviceStates → DeviceStates → Type 0
RunsCommand (commands.Update tag) status old new = UpdateRun tag old new status
RunsCommand (commands.Batch tag) status old new = BatchRun tag old new status
RunsCommand (commands.Layers keys) status old new = LayersRun keys old new status
RunsCommand (commands.Sample n) status old new = SampleRun n old new status
RunsCommand (commands.Print json) status old new = PrintRun json old new status
RunsCommand (commands.Lookup asked) status old new = LookupRun asked old new status
RunsCommand (commands.Resolve asked) status old new = ResolveRun asked old new status
