use Rattle.std.proofs.Common.{◌≡◌, ◌++◌, drop}
use Rattle.std.specs.List.{filter_map}
use Rattle.update_report.specs.Skips.{skip_at}
use Rattle.file_table.specs.Table.{analysis_at}
use Rattle.update_report.proofs.skipping.skips.Given as goal

-- the list so far and the skipped ones of the remaining files are the whole list
abbrev pub invariant-loop-path : goal.invariant-loop-path
invariant-loop-path l = l.skips ++ filter_map (skip_at (analysis_at l.table)) (drop l.path-index l.files) ≡ filter_map (skip_at (analysis_at l.table)) l.files
