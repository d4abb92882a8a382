use Rattle.std.proofs.Common.{rules}
use Rattle.tree_face.proofs.Disks.{failing_settles_nothing}
use Rattle.tree_face.proofs.memory.disks.MemDiskDisk.settle.Goals as goal

pub returns-in_err-pass-clause-crash : goal.returns-in_err-pass-clause-crash
returns-in_err-pass-clause-crash c = failing_settles_nothing c.args.self.now c.pass.new.self c.args.slot c.from_residual.result c.pass.ensures.disk (search rules)
