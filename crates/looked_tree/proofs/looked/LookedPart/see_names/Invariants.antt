use Rattle.std.proofs.Common.{[], drop, map}
use Rattle.image_tree.specs.Paths.{join}
use Rattle.looked_tree.specs.Looked.{LoadsPart}
use Rattle.looked_tree.proofs.looked.LookedPart.see_names.Given as goal

-- the remaining names give the rest
abbrev pub invariant-loop-name : goal.invariant-loop-name
invariant-loop-name g l =
    LoadsPart (λ t. map (join l.fn.dir) l.fn.names) (λ t. map (join l.fn.dir) (drop l.name-index l.fn.names)) (λ t. []) (λ t. [])
    (g.F.Folder.state l.fn.folder) (g.F.Folder.state l.folder) l.fn.self l.self
