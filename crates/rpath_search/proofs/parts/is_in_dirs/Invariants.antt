use Rattle.std.proofs.Common.{◌≡◌, flat_map, length}
use Rattle.rpath_search.specs.Candidates.{IsInside, dirs_left}
use Rattle.rpath_search.specs.Places.{paths_in}
use Rattle.rpath_search.specs.Searching.{is_among}
use Rattle.rpath_search.proofs.parts.is_in_dirs.Given as goal

-- the path is in one of the remaining directories exactly if it is in one of all
abbrev pub invariant-loop-dir : goal.invariant-loop-dir
invariant-loop-dir l = record {
  inside : IsInside l.left;
  among : is_among (flat_map (paths_in l.wanted.name.now l.wanted.env.now.caps) (dirs_left l.left)) l.path
      ≡ is_among (flat_map (paths_in l.wanted.name.now l.wanted.env.now.caps) (dirs_left l.fn.dirs)) l.path;
}

abbrev pub decreases-loop-dir : goal.decreases-loop-dir
decreases-loop-dir l = length (dirs_left l.left)
