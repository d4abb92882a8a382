use Rattle.std.proofs.Common.{◌≡◌, find, ◌==◌}
use Rattle.cache_reader.specs.Cache.{section_at, section_count}
use Rattle.cache_reader.specs.Checks.{items_from}
use Rattle.cache_reader.proofs.extension.with_tag.Given as goal

-- The search of the remaining sections gives the result for all sections.
abbrev pub invariant-loop-index : goal.invariant-loop-index
invariant-loop-index l =
    (l.count ≡ section_count l.bytes l.at)
    × (find (λ s. s.tag == l.tag) (items_from (section_at l.bytes l.at) l.index l.count) ≡ find (λ s. s.tag == l.tag) (items_from (section_at l.bytes l.at) 0 l.count))
