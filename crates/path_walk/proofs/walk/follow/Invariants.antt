use Rattle.std.proofs.Common.{◌≡◌, ◌-◌}
use Rattle.image_tree.specs.Paths.{components}
use Rattle.path_walk.specs.Stops.{KeepsDir}
use Rattle.path_walk.specs.Walk.{steps, walk}
use Rattle.path_walk.proofs.walk.follow.Given as goal

-- the walk by the text that is left, with the links that are left, has the same result as the whole walk
abbrev pub invariant-loop-link : goal.invariant-loop-link
invariant-loop-link l =
    (walk l.tree l.mode (l.links - l.link) (steps l.tree l.mode (components l.path.items) l.place.items)
    ≡ walk l.fn.tree l.fn.mode l.fn.links (steps l.fn.tree l.fn.mode (components l.fn.path.items) l.fn.place.items))
    × KeepsDir l.tree l.fn.place.items l.place.items
