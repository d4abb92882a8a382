use Rattle.std.proofs.Common.{◌≡◌, ◌+◌, ◌*◌, ◌/◌}
use Rattle.std.specs.List.{list_all}
use Rattle.lib_types.specs.Bytes.{field}
use Rattle.cache_reader.specs.Cache.{is_ended}
use Rattle.cache_reader.specs.Checks.{items_from}
use Rattle.cache_reader.proofs.extension.are_ended.Given as goal

-- The test of the remaining offsets gives the result for all offsets.
abbrev pub invariant-loop-index : goal.invariant-loop-index
invariant-loop-index l =
    (l.count ≡ l.section.size / 4)
    × (list_all (is_ended l.bytes) (items_from (λ index. field l.bytes (l.section.offset + 4 * index) 4) l.index l.count) ≡ list_all (is_ended l.bytes) (items_from (λ index. field l.bytes (l.section.offset + 4 * index) 4) 0 l.count))
