use Rattle.std.proofs.Common.{drop, flat_map}
use Rattle.looked_search.specs.Sonames.{AddsSonames, path_in, paths_in}
use Rattle.looked_search.proofs.sonames.add_in_places.Given as goal

-- the remaining search directories give the rest
abbrev pub invariant-loop-place : goal.invariant-loop-place
invariant-loop-place g l =
    AddsSonames (paths_in l.fn.places l.fn.soname) (flat_map (path_in l.fn.soname) (drop l.place-index l.fn.places))
    (g.F.Folder.state l.fn.folder) (g.F.Folder.state l.folder) l.fn.looked l.looked l.fn.tree l.tree
