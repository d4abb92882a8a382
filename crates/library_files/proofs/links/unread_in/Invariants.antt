use Rattle.std.proofs.Common.{◌≡◌, ◌++◌, drop}
use Rattle.std.specs.List.{flat_map}
use Rattle.file_table.specs.Table.{analysis_at}
use Rattle.library_files.specs.Unread.{unread_of}
use Rattle.library_files.proofs.links.unread_in.Given as goal

-- the remaining directories give the rest
abbrev pub invariant-loop-folder : goal.invariant-loop-folder
invariant-loop-folder l =
    l.paths.items ++ flat_map (unread_of (analysis_at l.table)) (drop l.folder-index l.folders) ≡ flat_map (unread_of (analysis_at l.table)) l.folders
