use Rattle.std.proofs.Common.{◌≡◌, ◌++◌, flat_map, take}
use Rattle.string_pool.specs.SharedEnds.{shared_place}
use Rattle.cache_writer.specs.CacheText.{entry_bytes}
use Rattle.cache_writer.proofs.writer.put_entries.Given as goal

-- the entries so far
abbrev pub invariant-loop-entry : goal.invariant-loop-entry
invariant-loop-entry l = l.out.items ≡ l.fn.out.items ++ flat_map (λ e. entry_bytes (shared_place l.strings) l.names e.entry.now) (take l.entry-index l.entries)
