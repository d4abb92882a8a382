use Rattle.std.proofs.Common.{drop, flat_map}
use Rattle.looked_places.specs.Listed.{library_looked}
use Rattle.looked_tree.specs.Looked.{LoadsPart}
use Rattle.seen_tree.specs.Part.{dirs_at}
use Rattle.looked_places.proofs.libraries.see_dirs.Given as goal

-- the remaining search directories give the rest
abbrev pub invariant-loop-place : goal.invariant-loop-place
invariant-loop-place g l =
    LoadsPart (λ t. flat_map (λ place. library_looked t place.real) l.fn.places) (λ t. flat_map (λ place. library_looked t place.real) (drop l.place-index l.fn.places))
    (λ t. flat_map (λ place. dirs_at t place.real) l.fn.places) (λ t. flat_map (λ place. dirs_at t place.real) (drop l.place-index l.fn.places))
    (g.F.Folder.state l.fn.folder) (g.F.Folder.state l.folder) l.fn.looked l.looked
