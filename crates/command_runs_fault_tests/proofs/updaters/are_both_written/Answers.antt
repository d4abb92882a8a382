use Rattle.std.proofs.Common.{◌∙◌}
use Rattle.tree_face.specs.declared.disk.Slot.TheVariants.{Cache}
use Rattle.command_runs_fault_tests.proofs.OtherTag.{keeps_other}
use Rattle.command_runs_fault_tests.proofs.updaters.are_both_written.Goals as goal

pub publish-requires : goal.publish-requires
publish-requires c =
    c.read.ensures.reads.keeps.made 1 Cache ∙ keeps_other _ _ _ Cache c.run_command-status.ensures.runs ∙ c.append.ensures.made 1 Cache ∙ c.in_ok-create.ensures.made
