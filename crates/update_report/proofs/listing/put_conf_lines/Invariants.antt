use Rattle.std.proofs.Common.{◌≡◌, ◌++◌, drop}
use Rattle.std.specs.List.{flat_map}
use Rattle.update_report.specs.Lines.{conf_line}
use Rattle.update_report.proofs.listing.put_conf_lines.Given as goal

-- the output so far and the lines of the remaining items are the whole output
abbrev pub invariant-loop-report : goal.invariant-loop-report
invariant-loop-report l = l.out.items ++ flat_map conf_line (drop l.report-index l.reports) ≡ l.fn.out.items ++ flat_map conf_line l.reports
