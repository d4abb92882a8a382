use Rattle.std.proofs.Common.{◌≡◌, ◌++◌, map}
use Rattle.std.specs.List.Sorted.{IsStrictlySortedBy}
use Rattle.cache_writer.specs.CacheText.{hwcaps_names}
use Rattle.cache_writer.proofs.Sorted.{by_bytes}
use Rattle.cache_writer.proofs.names.Names.of.Given as goal

-- The names so far and the names that are left are all names, sorted.
abbrev pub invariant-loop-name : goal.invariant-loop-name
invariant-loop-name l = record {
  sorted : IsStrictlySortedBy by_bytes (l.names.keys ++ l.name-iterator);
  all : map (λ name. name.now) (l.names.keys ++ l.name-iterator) ≡ hwcaps_names l.fn.entries;
}
