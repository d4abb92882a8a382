use Rattle.std.proofs.Common.{◌≡◌}
use Rattle.std.specs.List.{list_all}
use Rattle.cache_reader.specs.Cache.{section_at, section_count, is_inside}
use Rattle.cache_reader.specs.Checks.{items_from}
use Rattle.cache_reader.proofs.extension.are_inside.Given as goal

-- The test of the remaining sections gives the result for all sections.
abbrev pub invariant-loop-index : goal.invariant-loop-index
invariant-loop-index l =
    (l.count ≡ section_count l.bytes l.at)
    × (list_all (is_inside l.bytes) (items_from (section_at l.bytes l.at) l.index l.count) ≡ list_all (is_inside l.bytes) (items_from (section_at l.bytes l.at) 0 l.count))
