use Rattle.std.proofs.Common.{◌≡◌, map, take, None}
use Rattle.update_world.proofs.machine.no_files.Given as goal

abbrev pub invariant-loop-index : goal.invariant-loop-index
invariant-loop-index l = l.files.items ≡ map (λ _. None) (take l._index l.posts)
