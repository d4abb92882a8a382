use Rattle.std.proofs.Common.{length}
use Rattle.cache_entries.specs.Others.{AreAmong}
use Rattle.cache_entries.proofs.reached.reaches.Given as goal

abbrev pub invariant-loop-file : goal.invariant-loop-file
invariant-loop-file l = AreAmong l.left l.fn.left

abbrev pub decreases-loop-file : goal.decreases-loop-file
decreases-loop-file l = length l.left
