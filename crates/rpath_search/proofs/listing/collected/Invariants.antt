use Rattle.std.proofs.Common.{◌≡◌, ◌++◌, length}
use Rattle.rpath_search.specs.Candidates.{IsInside, paths_left}
use Rattle.rpath_search.proofs.listing.collected.Given as goal

-- the list so far and the remaining paths are all paths
abbrev pub invariant-loop-list : goal.invariant-loop-list
invariant-loop-list l = record { inside : IsInside l.left.first; left : l.list ++ paths_left l.left ≡ paths_left l.fn.candidates }

abbrev pub decreases-loop-list : goal.decreases-loop-list
decreases-loop-list l = length (paths_left l.left)
