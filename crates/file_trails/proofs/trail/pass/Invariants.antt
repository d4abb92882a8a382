use Rattle.std.proofs.Common.{◌≡◌, length}
use Rattle.path_walk.specs.Walk.{steps}
use Rattle.path_walk.specs.declared.walk.Mode.TheVariants.{Full}
use Rattle.file_trails.specs.Trail.{met}
use Rattle.file_trails.proofs.trail.pass.Given as goal

-- the walk by the names that are left meets and ends as the whole walk does
abbrev pub invariant-loop-name : goal.invariant-loop-name
invariant-loop-name l = record {
  same : l.met ≡ l.fn.met;
  met : met l.tree l.rest l.place ≡ met l.fn.tree l.fn.names l.fn.start;
  steps : steps l.tree Full l.rest l.place ≡ steps l.fn.tree Full l.fn.names l.fn.start;
}

abbrev pub decreases-loop-name : goal.decreases-loop-name
decreases-loop-name l = length l.rest
