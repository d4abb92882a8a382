use Rattle.std.proofs.Common.{◌≡◌, ◌++◌}
use Rattle.std.specs.List.{flat_map}
use Rattle.library_files.specs.Folders.{dangling_in_order}
use Rattle.library_files.proofs.links.dangling_in_order.Given as goal

-- the remaining directories give the rest
abbrev pub invariant-loop-found : goal.invariant-loop-found
invariant-loop-found l = l.paths ++ flat_map (λ paths. paths) l.found-iterator ≡ dangling_in_order l.folders
