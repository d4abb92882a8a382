use Rattle.std.proofs.Common.{drop, flat_map}
use Rattle.looked_search.specs.Sonames.{AddsSonames, paths_in}
use Rattle.looked_search.proofs.sonames.add_each.Given as goal

-- the remaining sonames give the rest
abbrev pub invariant-loop-soname : goal.invariant-loop-soname
invariant-loop-soname g l =
    AddsSonames (flat_map (paths_in l.fn.places) l.fn.sonames) (flat_map (paths_in l.fn.places) (drop l.soname-index l.fn.sonames))
    (g.F.Folder.state l.fn.folder) (g.F.Folder.state l.folder) l.fn.looked l.looked l.fn.tree l.tree
