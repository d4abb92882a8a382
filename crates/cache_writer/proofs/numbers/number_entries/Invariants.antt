use Rattle.std.proofs.Common.{◌≡◌, flat_map, map, take}
use Rattle.std.specs.List.{All}
use Rattle.string_pool.specs.Distinct.{distinct}
use Rattle.cache_writer.specs.CacheText.{own_strings}
use Rattle.cache_writer.specs.Numbers.{HasNumbers}
use Rattle.cache_writer.proofs.numbers.number_entries.Given as goal

-- the entries so far, with the indexes of their strings
abbrev pub invariant-loop-entry : goal.invariant-loop-entry
invariant-loop-entry l = record {
  texts : l.texts ≡ distinct (flat_map own_strings (take l.entry-index l.entries));
  entries : map (λ e. e.entry.now) l.numbered.items ≡ take l.entry-index l.entries;
  numbers : All (HasNumbers l.texts) l.numbered.items;
}
