use Rattle.std.proofs.Common.{◌≡◌, ◌++◌, drop}
use Rattle.std.specs.List.{flat_map}
use Rattle.update_report.specs.Lines.{skip_line}
use Rattle.update_report.proofs.listing.put_skip_lines.Given as goal

-- the output so far and the lines of the remaining items are the whole output
abbrev pub invariant-loop-skipped : goal.invariant-loop-skipped
invariant-loop-skipped l = l.out.items ++ flat_map skip_line (drop l.skipped-index l.skips) ≡ l.fn.out.items ++ flat_map skip_line l.skips
