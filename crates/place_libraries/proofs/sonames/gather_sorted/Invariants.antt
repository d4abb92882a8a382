use Rattle.place_libraries.proofs.Gathered.{GoesOn}
use Rattle.place_libraries.proofs.sonames.gather_sorted.Given as goal

-- the remaining items complete the folds of those so far
abbrev pub invariant-loop-item : goal.invariant-loop-item
invariant-loop-item g l = GoesOn g.G.Gather.step l.fn.items.items l.found.items l.item-iterator.rest.items
