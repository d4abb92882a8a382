use Rattle.std.proofs.Common.{◌≡◌, [], fold, map, take}
use Rattle.cache_writer.specs.CacheText.{with_name}
use Rattle.cache_writer.proofs.names.ascending.Given as goal

-- the names of the entries so far
abbrev pub invariant-loop-entry : goal.invariant-loop-entry
invariant-loop-entry l = map (λ name. name.now) l.names.keys ≡ fold with_name [] (take l.entry-index l.entries)
