use Rattle.std.proofs.Common.{map, take}
use Rattle.library_files.specs.RealFolders.{HaveRows}
use Rattle.library_files.proofs.reals.real_folders.Given as goal

-- the search directories so far have their rows
abbrev pub invariant-loop-place : goal.invariant-loop-place
invariant-loop-place l = HaveRows (map (λ place. place.real) (take l.place-index l.dirs.places)) l.met.keys l.rows
