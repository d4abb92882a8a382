use Rattle.std.proofs.Common.{◌≡◌}
use Rattle.std.specs.Option.{option_copied}
use Rattle.path_walk.specs.Rest.{names_in}
use Rattle.lib_types.specs.Splits.{size_of}
use Rattle.path_walk.specs.Stops.{KeepsDir}
use Rattle.path_walk.specs.Walk.{steps}
use Rattle.path_walk.proofs.walk.walk_names.Given as goal

-- the walk by the text that is left has the same result as the walk by the whole text
abbrev pub invariant-loop-name : goal.invariant-loop-name
invariant-loop-name l =
    (steps l.tree l.mode (names_in (option_copied l.left)) l.place.items ≡ steps l.fn.tree l.fn.mode (names_in (option_copied l.fn.path)) l.fn.place.items)
    × KeepsDir l.tree l.fn.place.items l.place.items

abbrev pub decreases-loop-name : goal.decreases-loop-name
decreases-loop-name l = size_of (option_copied l.left)
