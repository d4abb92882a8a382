use Rattle.std.proofs.Common.{[], drop}
use Rattle.looked_places.specs.Listed.{ways_looked}
use Rattle.looked_tree.specs.Looked.{LoadsPart}
use Rattle.looked_places.proofs.libraries.see_ways.Given as goal

-- the ways to the remaining search directories give the rest
abbrev pub invariant-loop-place : goal.invariant-loop-place
invariant-loop-place g l =
    LoadsPart (λ t. ways_looked t l.fn.places) (λ t. ways_looked t (drop l.place-index l.fn.places)) (λ t. []) (λ t. [])
    (g.F.Folder.state l.fn.folder) (g.F.Folder.state l.folder) l.fn.looked l.looked
