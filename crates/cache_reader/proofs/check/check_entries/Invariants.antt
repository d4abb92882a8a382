use Rattle.std.proofs.Common.{◌≡◌}
use Rattle.cache_reader.specs.Cache.{entry_sentences, nlibs}
use Rattle.cache_reader.specs.Checks.{rest_from}
use Rattle.cache_reader.proofs.check.check_entries.Given as goal

-- The first defect of the remaining entries is the first defect of all entries.
abbrev pub invariant-loop-index : goal.invariant-loop-index
invariant-loop-index l = (l.count ≡ nlibs l.bytes) × (rest_from (entry_sentences l.bytes) l.index l.count ≡ rest_from (entry_sentences l.bytes) 0 l.count)
