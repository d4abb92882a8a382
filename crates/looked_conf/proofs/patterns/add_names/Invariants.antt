use Rattle.std.proofs.Common.{◌≡◌, ◌++◌, ◌∷◌, drop, filter, map, not}
use Rattle.conf_patterns.specs.Patterns.{is_library_link}
use Rattle.lib_types.specs.Name.{slash}
use Rattle.looked_conf.proofs.patterns.add_names.Given as goal

-- the remaining names give the rest
abbrev pub invariant-loop-name : goal.invariant-loop-name
invariant-loop-name l =
    l.texts.items ++ map (λ name. l.text ++ slash ∷ name) (filter (λ name. not (is_library_link l.tree l.folder name)) (drop l.name-index l.names))
    ≡ l.fn.texts.items ++ map (λ name. l.text ++ slash ∷ name) (filter (λ name. not (is_library_link l.tree l.folder name)) l.names)
