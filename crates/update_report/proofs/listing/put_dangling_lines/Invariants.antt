use Rattle.std.proofs.Common.{◌≡◌, ◌++◌, drop}
use Rattle.std.specs.List.{flat_map}
use Rattle.update_report.specs.Lines.{dangling_line}
use Rattle.update_report.proofs.listing.put_dangling_lines.Given as goal

-- the output so far and the lines of the remaining items are the whole output
abbrev pub invariant-loop-path : goal.invariant-loop-path
invariant-loop-path l = l.out.items ++ flat_map dangling_line (drop l.path-index l.paths) ≡ l.fn.out.items ++ flat_map dangling_line l.paths
