use Rattle.std.proofs.Common.{◌≡◌, ◌++◌, ◌∷◌, Some, map}
use Rattle.std.specs.List.{filter}
use Rattle.lib_types.specs.Name.{slash}
use Rattle.conf_patterns.specs.Patterns.{chosen_in, is_chosen}
use Rattle.conf_patterns.proofs.patterns.add_chosen.Given as goal

-- the remaining names give the rest
abbrev pub invariant-loop-name : goal.invariant-loop-name
invariant-loop-name l =
    l.texts.items ++ map (λ name. l.text ++ slash ∷ name) (filter (is_chosen l.tree l.folder l.component) l.name-iterator)
    ≡ l.fn.texts.items ++ map (λ name. l.text ++ slash ∷ name) (chosen_in l.tree l.component (Some l.folder))
