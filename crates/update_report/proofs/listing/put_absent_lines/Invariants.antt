use Rattle.std.proofs.Common.{◌≡◌, ◌++◌, drop}
use Rattle.std.specs.List.{flat_map}
use Rattle.update_report.specs.Lines.{absent_line}
use Rattle.update_report.proofs.listing.put_absent_lines.Given as goal

-- the output so far and the lines of the remaining items are the whole output
abbrev pub invariant-loop-dir : goal.invariant-loop-dir
invariant-loop-dir l = l.out.items ++ flat_map absent_line (drop l.dir-index l.dirs) ≡ l.fn.out.items ++ flat_map absent_line l.dirs
