use Rattle.std.proofs.Common.{◌≡◌, ◌++◌, map}
use Rattle.std.specs.Map.{values_of}
use Rattle.cache_entries.proofs.winner.listed.Given as goal

-- the libraries so far and those of the winners that are left are all libraries
abbrev pub invariant-loop-winner : goal.invariant-loop-winner
invariant-loop-winner l = l.libraries ++ map (λ ranked. ranked.library) (values_of l.winner-iterator.rest.items) ≡ map (λ ranked. ranked.library) (values_of l.fn.winners.items)
