use Rattle.std.proofs.Common.{length}
use Rattle.cache_entries.specs.LinksOf.{AreLeftOf}
use Rattle.cache_entries.proofs.links_of.target_of.Given as goal

abbrev pub invariant-loop-link : goal.invariant-loop-link
invariant-loop-link l = AreLeftOf l.fn.left l.left

abbrev pub decreases-loop-link : goal.decreases-loop-link
decreases-loop-link l = length l.left
