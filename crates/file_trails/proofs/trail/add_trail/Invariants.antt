use Rattle.std.proofs.Common.{◌≡◌, ◌++◌}
use Rattle.path_walk.specs.Walk.{Follows}
use Rattle.file_trails.specs.Trail.{met_by, trail}
use Rattle.file_trails.proofs.trail.add_trail.Given as goal

-- what was met so far, and what the walk from here meets
abbrev pub invariant-loop-walks : goal.invariant-loop-walks
invariant-loop-walks l = l.met ++ met_by l.tree l.walks (Follows l.names l.place) ≡ l.fn.met ++ trail l.tree l.path

abbrev pub decreases-loop-walks : goal.decreases-loop-walks
decreases-loop-walks l = l.walks
