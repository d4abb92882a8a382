use Rattle.std.proofs.Common.{◌≡◌, ◌++◌}
use Rattle.std.specs.List.{filter_map}
use Rattle.library_files.specs.Children.{file_there}
use Rattle.library_files.proofs.found.files_there.Given as goal

-- the remaining paths give the rest
abbrev pub invariant-loop-path : goal.invariant-loop-path
invariant-loop-path l = l.files.items ++ filter_map (file_there l.tree) l.path-iterator.rest.items ≡ filter_map (file_there l.tree) l.fn.paths
