use Rattle.std.proofs.Common.{[]}
use Rattle.image_tree.specs.Paths.{components}
use Rattle.path_walk.specs.Walk.{Follows}
use Rattle.looked_tree.specs.Looked.{LoadsPart}
use Rattle.seen_tree.specs.Part.{looked_by, walked}
use Rattle.looked_tree.proofs.looked.LookedPart.see_text.Given as goal

-- the walk by the text that is left looks up the rest
abbrev pub invariant-loop-links : goal.invariant-loop-links
invariant-loop-links g l =
    LoadsPart (λ t. looked_by t l.fn.text l.fn.mode) (λ t. walked t l.fn.mode l.links (Follows (components l.path.items) l.place)) (λ t. []) (λ t. [])
    (g.F.Folder.state l.fn.folder) (g.F.Folder.state l.folder) l.fn.self l.self

abbrev pub decreases-loop-links : goal.decreases-loop-links
decreases-loop-links g l = l.links
