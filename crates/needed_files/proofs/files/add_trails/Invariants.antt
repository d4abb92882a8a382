use Rattle.std.proofs.Common.{◌≡◌, ◌++◌, drop}
use Rattle.std.specs.List.{flat_map}
use Rattle.file_trails.specs.Trail.{trail}
use Rattle.needed_files.proofs.files.add_trails.Given as goal

-- what is there so far, and the trails of the paths that are left
abbrev pub invariant-loop-path : goal.invariant-loop-path
invariant-loop-path l = l.met ++ flat_map (trail l.tree) (drop l.path-index l.paths) ≡ l.fn.met ++ flat_map (trail l.tree) l.paths
