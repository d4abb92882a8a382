use Rattle.std.proofs.Common.{◌-◌}
use Rattle.cache_reader.specs.Cache.{read}
use Rattle.cache_lookup.specs.Searches.{AreDescendingTo, IsNameAt}
use Rattle.cache_lookup.proofs.check.first_rise.Given as goal

-- The names before the index don't rise, and the last of them is kept.
abbrev pub invariant-loop-index : goal.invariant-loop-index
invariant-loop-index l = record {
  sorted : AreDescendingTo (read l.view) l.index;
  before : IsNameAt (read l.view) (l.index - 1) l.before;
}
