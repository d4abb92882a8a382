use Rattle.std.proofs.Common.{◌≡◌, ◌++◌, drop}
use Rattle.std.specs.List.{flat_map}
use Rattle.library_files.proofs.FoundIn.{found_in}
use Rattle.library_files.proofs.search.files_of.Given as goal

-- the remaining directories give the rest
abbrev pub invariant-loop-folder : goal.invariant-loop-folder
invariant-loop-folder l = l.files.items ++ flat_map (found_in l.tree) (drop l.folder-index l.folders) ≡ flat_map (found_in l.tree) l.folders
