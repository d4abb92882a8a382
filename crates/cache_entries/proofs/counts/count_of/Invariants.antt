use Rattle.std.proofs.Common.{◌≡◌, ◌+◌, length}
use Rattle.cache_entries.proofs.counts.count_of.Given as goal

-- the count so far and the winners that are left are all winners
abbrev pub invariant-loop-winner : goal.invariant-loop-winner
invariant-loop-winner l = l.count + length l._winner-iterator ≡ length l.winners
