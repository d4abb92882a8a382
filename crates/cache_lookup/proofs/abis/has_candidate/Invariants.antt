use Rattle.std.proofs.Common.{◌≡◌, drop}
use Rattle.cache_reader.specs.Cache.{read}
use Rattle.cache_lookup.specs.Abis.{has_candidate}
use Rattle.cache_lookup.proofs.abis.has_candidate.Given as goal

-- the entries that are left decide
abbrev pub invariant-loop-index : goal.invariant-loop-index
invariant-loop-index l = has_candidate (drop l.index (read l.view)) l.name l.abi ≡ has_candidate (read l.view) l.name l.abi
