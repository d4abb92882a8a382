use Rattle.std.proofs.Common.{◌≡◌}
use Rattle.rpath_search.specs.Candidates.{IsInside, dirs_left, lists_left}
use Rattle.rpath_search.proofs.candidates.split_first.Given as goal

-- the remaining directories are the same
abbrev pub invariant-loop-left : goal.invariant-loop-left
invariant-loop-left l = record { inside : IsInside l.left; left : dirs_left l.left ≡ dirs_left l.fn.dirs }

abbrev pub decreases-loop-left : goal.decreases-loop-left
decreases-loop-left l = lists_left l.left
