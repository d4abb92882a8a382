use Rattle.std.proofs.Common.{[], drop}
use Rattle.conf_views.specs.Patterns.{places_looked}
use Rattle.looked_tree.specs.Looked.{LoadsPart}
use Rattle.looked_conf.proofs.patterns.see_places.Given as goal

-- the remaining texts give the rest
abbrev pub invariant-loop-text : goal.invariant-loop-text
invariant-loop-text g l =
    LoadsPart (λ t. places_looked t l.fn.texts) (λ t. places_looked t (drop l.text-index l.fn.texts)) (λ t. []) (λ t. [])
    (g.F.Folder.state l.fn.folder) (g.F.Folder.state l.folder) l.fn.looked l.looked
