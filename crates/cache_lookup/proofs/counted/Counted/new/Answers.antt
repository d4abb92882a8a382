use Rattle.cache_lookup.proofs.counted.Counted.new.Goals as goal

pub returns-clause-sorted : goal.returns-clause-sorted
returns-clause-sorted c = c.sorted.invariant
