use Rattle.std.proofs.Common.{◌∷◌, []}
use Rattle.conf_patterns.specs.Patterns.{base_of, components_of}
use Rattle.looked_conf.proofs.Texts.{IsExpanding}
use Rattle.looked_conf.proofs.patterns.see_texts.Given as goal

-- the remaining components give the rest
abbrev pub invariant-loop-component : goal.invariant-loop-component
invariant-loop-component g l =
    IsExpanding (base_of l.fn.file l.fn.pattern ∷ []) (components_of l.fn.pattern) l.texts.items l.component-iterator
    (g.F.Folder.state l.fn.folder) (g.F.Folder.state l.folder) l.fn.looked l.looked
