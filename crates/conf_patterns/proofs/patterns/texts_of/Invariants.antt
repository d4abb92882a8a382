use Rattle.std.proofs.Common.{◌≡◌, ◌∷◌, []}
use Rattle.conf_patterns.specs.Patterns.{texts_by, base_of, components_of}
use Rattle.conf_patterns.proofs.patterns.texts_of.Given as goal

-- the remaining components give the whole result
abbrev pub invariant-loop-component : goal.invariant-loop-component
invariant-loop-component l = texts_by l.tree l.texts.items l.component-iterator ≡ texts_by l.tree (base_of l.fn.file l.fn.pattern ∷ []) (components_of l.fn.pattern)
