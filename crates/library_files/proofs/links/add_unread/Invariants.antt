use Rattle.std.proofs.Common.{◌≡◌, ◌++◌}
use Rattle.std.specs.List.{filter_map}
use Rattle.file_table.specs.Table.{analysis_at}
use Rattle.library_files.specs.Unread.{unread_file, unread_of}
use Rattle.library_files.proofs.links.add_unread.Given as goal

-- the remaining links give the rest
abbrev pub invariant-loop-link : goal.invariant-loop-link
invariant-loop-link l =
    l.paths.items ++ filter_map (unread_file (analysis_at l.table)) l.link-iterator ≡ l.fn.paths.items ++ unread_of (analysis_at l.table) l.folder
