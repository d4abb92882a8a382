use Rattle.std.proofs.Common.{◌++◌}
use Rattle.std.specs.List.{filter_map}
use Rattle.cache_entries.specs.Others.{AreAmong, HaveOthers}
use Rattle.cache_entries.specs.Winner.{linked}
use Rattle.file_table.specs.Table.{analysis_at}
use Rattle.cache_entries.proofs.reached.reached_libraries.Given as goal

-- The kept links and the links that are left have all candidates. The files that are left are among the files.
abbrev pub invariant-loop-link : goal.invariant-loop-link
invariant-loop-link l = HaveOthers l.files (filter_map (linked (analysis_at l.table)) l.links) (l.kept.items ++ filter_map (linked (analysis_at l.table)) l.link-iterator)
    × AreAmong l.left l.files
