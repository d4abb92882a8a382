use Rattle.std.proofs.Common.{[], drop}
use Rattle.looked_tree.specs.Looked.{LoadsPart}
use Rattle.seen_places.specs.Looked.{texts_looked}
use Rattle.looked_places.proofs.dirs.see_texts.Given as goal

-- the remaining texts give the rest
abbrev pub invariant-loop-text : goal.invariant-loop-text
invariant-loop-text g l =
    LoadsPart (λ t. texts_looked t l.fn.texts) (λ t. texts_looked t (drop l.text-index l.fn.texts)) (λ t. []) (λ t. [])
    (g.F.Folder.state l.fn.folder) (g.F.Folder.state l.folder) l.fn.looked l.looked
