use Rattle.std.proofs.Common.{◌≡◌}
use Rattle.image_tree.specs.Paths.{components}
use Rattle.path_walk.specs.Walk.{start_of, steps, walk}
use Rattle.path_walk.specs.declared.walk.Mode.TheVariants.{Full}
use Rattle.path_walk.proofs.files.file_next_to.Given as goal

-- the walk by the target that is left, with the links that are left, has the same result as the whole walk
abbrev pub invariant-loop-left : goal.invariant-loop-left
invariant-loop-left l =
    walk l.tree Full l.left (steps l.tree Full (components l.text) (start_of l.text l.folder))
    ≡ walk l.fn.tree Full l.fn.links (steps l.fn.tree Full (components l.fn.target) (start_of l.fn.target l.fn.folder))

abbrev pub decreases-loop-left : goal.decreases-loop-left
decreases-loop-left l = l.left
