use Rattle.std.proofs.Common.{◌≡◌, length}
use Rattle.rpath_search.specs.Candidates.{paths_at}
use Rattle.rpath_search.specs.Places.{paths_in}
use Rattle.rpath_search.specs.Searching.{is_among}
use Rattle.rpath_search.proofs.parts.is_in_dir.Given as goal

-- the path is one of the remaining paths exactly if it is one of all
abbrev pub invariant-loop-left : goal.invariant-loop-left
invariant-loop-left l = is_among (paths_at l.wanted.name.now l.left) l.path ≡ is_among (paths_in l.wanted.name.now l.wanted.env.now.caps l.dir) l.path

abbrev pub decreases-loop-left : goal.decreases-loop-left
decreases-loop-left l = length (paths_at l.wanted.name.now l.left)
