use Rattle.std.specs.List.Sorted.{IsStrictlySortedBy}
use Rattle.aux_cache.proofs.stamps.Stamps.new.Goals as goal

pub invariant_of-result : goal.invariant_of-result
unfolding IsStrictlySortedBy
invariant_of-result c = rw c.new.ensures.items tt
