use Rattle.std.proofs.Common.{◌≡◌, ◌≤◌, ◌-◌, false, length}
use Rattle.conf_patterns.specs.Pieces.{has_close}
use Rattle.conf_patterns.proofs.set.unclosed_len.Given as goal

abbrev pub invariant-loop-n : goal.invariant-loop-n
invariant-loop-n l = record { within : l.n ≤ length l.bytes; none : has_close l.n l.bytes ≡ false }

abbrev pub decreases-loop-n : goal.decreases-loop-n
decreases-loop-n l = length l.bytes - l.n
