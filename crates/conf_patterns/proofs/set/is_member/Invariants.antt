use Rattle.std.proofs.Common.{◌≡◌, length}
use Rattle.conf_patterns.specs.Glob.{is_member}
use Rattle.conf_patterns.proofs.set.is_member.Given as goal

-- the remaining ranges contain the byte exactly if the whole set does
abbrev pub invariant-loop-low : goal.invariant-loop-low
invariant-loop-low l = is_member l.rest l.b ≡ is_member l.fn.set l.b

abbrev pub decreases-loop-low : goal.decreases-loop-low
decreases-loop-low l = length l.rest
