use Rattle.std.proofs.Common.{◌≡◌, map, take}
use Rattle.atomic_replace.specs.Order.{all_calls}
use Rattle.update_world.proofs.machine.no_progress.Given as goal

abbrev pub invariant-loop-index : goal.invariant-loop-index
invariant-loop-index l = l.progress.items ≡ map (λ _. all_calls) (take l._index l.posts)
