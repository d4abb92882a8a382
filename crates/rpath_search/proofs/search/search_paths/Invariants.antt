use Rattle.std.proofs.Common.{◌≡◌, length}
use Rattle.rpath_search.specs.Candidates.{IsInside, paths_left}
use Rattle.rpath_search.specs.Trying.{HasTried}
use Rattle.rpath_search.proofs.search.search_paths.Given as goal

-- none of the paths so far is good
abbrev pub invariant-loop-left : goal.invariant-loop-left
invariant-loop-left g l = record {
  held : (g.S.Store.state l.store).held ≡ (g.S.Store.state l.fn.store).held;
  inside : IsInside l.left.first;
  tried : HasTried (g.S.Store.state l.fn.store).held l.tree l.abi l.files.loaded (paths_left l.fn.paths) (paths_left l.left) (g.S.Store.state l.fn.store) (g.S.Store.state l.store);
}

abbrev pub decreases-loop-left : goal.decreases-loop-left
decreases-loop-left g l = length (paths_left l.left)
