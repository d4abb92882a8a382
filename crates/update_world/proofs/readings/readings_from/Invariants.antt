use Rattle.std.proofs.Common.{◌≡◌, ◌-◌, ◌≤◌, map, take}
use Rattle.std.specs.List.{range_with_len}
use Rattle.update_world.specs.Turns.{reading}
use Rattle.update_world.proofs.readings.readings_from.Given as goal

abbrev pub invariant-loop-count : goal.invariant-loop-count
invariant-loop-count l = (l.from ≤ l.count) × (l.readings ≡ map (λ n. reading l.first l.posts (take n l.published)) (range_with_len l.from (l.count - l.from)))
