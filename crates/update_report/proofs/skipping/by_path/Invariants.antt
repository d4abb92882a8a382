use Rattle.std.proofs.Common.{◌≡◌, []}
use Rattle.std.specs.List.{fold}
use Rattle.update_report.specs.ByPath.{with_row}
use Rattle.update_report.proofs.skipping.by_path.Given as goal

-- adding the remaining rows to the map so far gives the map of all rows
abbrev pub invariant-loop-path : goal.invariant-loop-path
invariant-loop-path l = fold with_row l.found.entries l.path-iterator ≡ fold with_row [] l.table
