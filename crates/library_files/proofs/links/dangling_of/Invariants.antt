use Rattle.std.proofs.Common.{◌≡◌, ◌++◌}
use Rattle.std.specs.List.{filter_map}
use Rattle.library_files.specs.Folders.{dangling_of}
use Rattle.library_files.specs.Search.{unless_file}
use Rattle.library_files.proofs.links.dangling_of.Given as goal

-- the remaining links give the rest
abbrev pub invariant-loop-link : goal.invariant-loop-link
invariant-loop-link l = l.paths ++ filter_map (unless_file l.folder.folder) l.link-iterator ≡ dangling_of l.folder
