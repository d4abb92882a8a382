use Rattle.std.proofs.Common.{◌≡◌, drop, length}
use Rattle.std.specs.List.{list_any}
use Rattle.hwcap_dirs.specs.Places.{system_dirs}
use Rattle.image_tree.specs.Paths.{is_below}
use Rattle.rpath_search.specs.Places.{is_default}
use Rattle.rpath_search.proofs.candidates.is_default.Given as goal

-- the path is in one of the remaining directories exactly if it is in one of the default directories
abbrev pub invariant-loop-dir : goal.invariant-loop-dir
invariant-loop-dir l = list_any (λ dir. is_below dir l.path) (drop l.done system_dirs) ≡ is_default l.path

abbrev pub decreases-loop-dir : goal.decreases-loop-dir
decreases-loop-dir l = length (drop l.done system_dirs)
