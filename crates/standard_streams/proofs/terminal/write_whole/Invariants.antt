use Rattle.std.proofs.Common.{length}
use Rattle.standard_streams.proofs.terminal.write_whole.Given as goal

abbrev pub decreases-loop-rest : goal.decreases-loop-rest
decreases-loop-rest g l = length l.rest
