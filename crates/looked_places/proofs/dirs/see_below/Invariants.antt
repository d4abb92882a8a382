use Rattle.std.proofs.Common.{drop, flat_map}
use Rattle.looked_places.specs.Plain.{plain_listed, plain_looked}
use Rattle.looked_tree.specs.Looked.{LoadsPart}
use Rattle.looked_places.proofs.dirs.see_below.Given as goal

-- the remaining search directories give the rest
abbrev pub invariant-loop-place : goal.invariant-loop-place
invariant-loop-place g l =
    LoadsPart (λ t. flat_map (plain_looked t) l.fn.places) (λ t. flat_map (plain_looked t) (drop l.place-index l.fn.places))
    (λ t. flat_map (plain_listed t) l.fn.places) (λ t. flat_map (plain_listed t) (drop l.place-index l.fn.places))
    (g.F.Folder.state l.fn.folder) (g.F.Folder.state l.folder) l.fn.looked l.looked
