use Rattle.std.proofs.Common.{◌≡◌, ◌++◌}
use Rattle.aux_cache.proofs.gathered.GatheredStamps.into_stamps.Given as goal

-- the stamps so far, followed by the stamps that are left, are all stamps
abbrev pub invariant-loop-stamp : goal.invariant-loop-stamp
invariant-loop-stamp l = l.stamps.items ++ l.stamp-iterator ≡ l.fn.self
