use Rattle.std.proofs.Common.{◌≡◌, drop}
use Rattle.cache_reader.specs.Cache.{read}
use Rattle.cache_lookup.specs.Abis.{abis_of, common_abi, common_with}
use Rattle.cache_lookup.proofs.abis.common_abi.Given as goal

-- the entries that are left decide, together with the ABI so far
abbrev pub invariant-loop-index : goal.invariant-loop-index
invariant-loop-index l = common_with l.common (abis_of (drop l.index (read l.view))) ≡ common_abi (read l.view)
