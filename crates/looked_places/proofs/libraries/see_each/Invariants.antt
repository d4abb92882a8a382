use Rattle.std.proofs.Common.{[], drop, flat_map}
use Rattle.looked_places.specs.Listed.{named_looked}
use Rattle.looked_tree.specs.Looked.{LoadsPart}
use Rattle.looked_places.proofs.libraries.see_each.Given as goal

-- the remaining names give the rest
abbrev pub invariant-loop-name : goal.invariant-loop-name
invariant-loop-name g l =
    LoadsPart (λ t. flat_map (named_looked t l.fn.dir) l.fn.names) (λ t. flat_map (named_looked t l.fn.dir) (drop l.name-index l.fn.names)) (λ t. []) (λ t. [])
    (g.F.Folder.state l.fn.folder) (g.F.Folder.state l.folder) l.fn.looked l.looked
