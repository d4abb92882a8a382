use Rattle.std.proofs.Common.{rules}
use Rattle.tree_face.proofs.Disks.{failing_adds_nothing}
use Rattle.tree_face.proofs.memory.disks.MemDiskDisk.publish.Goals as goal

pub returns-in_err-pass-clause-crash : goal.returns-in_err-pass-clause-crash
returns-in_err-pass-clause-crash c = failing_adds_nothing c.args.self.now c.pass.new.self c.args.slot c.from_residual.result c.args.tag.0 c.pass.ensures.disk (search rules)
