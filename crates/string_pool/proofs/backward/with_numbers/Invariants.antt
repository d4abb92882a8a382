use Rattle.std.proofs.Common.{map, take}
use Rattle.string_pool.specs.Backward.{AreNumbered}
use Rattle.string_pool.proofs.backward.with_numbers.Given as goal

-- the texts so far have their numbers
abbrev pub invariant-loop-text : goal.invariant-loop-text
invariant-loop-text l = AreNumbered (map (λ text. text.now) (take l.text-index l.texts)) l.all.items
