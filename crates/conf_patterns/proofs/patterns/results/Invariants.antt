use Rattle.std.proofs.Common.{◌≡◌, ◌∷◌, []}
use Rattle.std.specs.List.{filter_map, fold}
use Rattle.conf_patterns.specs.Patterns.{texts_by, base_of, components_of, found_at, with_found, in_byte_order}
use Rattle.conf_patterns.proofs.patterns.results.Given as goal

-- adding the remaining texts gives the whole result
abbrev pub invariant-loop-text : goal.invariant-loop-text
invariant-loop-text l =
    fold with_found l.found.entries (filter_map (found_at l.tree) l.text-iterator.rest.items)
    ≡ in_byte_order (filter_map (found_at l.tree) (texts_by l.tree (base_of l.file l.pattern ∷ []) (components_of l.pattern)))
