use Rattle.std.proofs.Common.{◌≡◌, drop}
use Rattle.std.specs.List.{fold}
use Rattle.library_files.specs.Folders.{by_folder, with_folder}
use Rattle.library_files.proofs.links.by_folder.Given as goal

-- the remaining directories give the rest
abbrev pub invariant-loop-folder : goal.invariant-loop-folder
invariant-loop-folder l = fold with_folder l.found.entries (drop l.folder-index l.folders) ≡ by_folder l.folders
