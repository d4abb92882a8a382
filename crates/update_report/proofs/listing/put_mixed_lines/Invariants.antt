use Rattle.std.proofs.Common.{◌≡◌, ◌++◌, drop}
use Rattle.std.specs.List.{flat_map}
use Rattle.update_report.specs.Lines.{mixed_line}
use Rattle.update_report.proofs.listing.put_mixed_lines.Given as goal

-- the output so far and the lines of the remaining items are the whole output
abbrev pub invariant-loop-mark : goal.invariant-loop-mark
invariant-loop-mark l = l.out.items ++ flat_map (mixed_line l.places) (drop l.mark-index l.marks) ≡ l.fn.out.items ++ flat_map (mixed_line l.places) l.marks
