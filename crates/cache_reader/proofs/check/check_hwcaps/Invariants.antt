use Rattle.std.proofs.Common.{◌≡◌}
use Rattle.cache_reader.specs.Cache.{hwcap_sentences, nlibs}
use Rattle.cache_reader.specs.Checks.{rest_from}
use Rattle.cache_reader.proofs.check.check_hwcaps.Given as goal

-- The first defect of the remaining hwcaps is the first defect of all hwcaps.
abbrev pub invariant-loop-index : goal.invariant-loop-index
invariant-loop-index l = (l.count ≡ nlibs l.bytes) × (rest_from (hwcap_sentences l.bytes) l.index l.count ≡ rest_from (hwcap_sentences l.bytes) 0 l.count)
