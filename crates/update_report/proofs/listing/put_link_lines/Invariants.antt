use Rattle.std.proofs.Common.{◌≡◌, ◌++◌, drop}
use Rattle.std.specs.List.{flat_map}
use Rattle.update_report.specs.Lines.{link_line}
use Rattle.update_report.proofs.listing.put_link_lines.Given as goal

-- the output so far and the lines of the remaining items are the whole output
abbrev pub invariant-loop-planned : goal.invariant-loop-planned
invariant-loop-planned l = l.out.items ++ flat_map (link_line l.places) (drop l.planned-index l.plan) ≡ l.fn.out.items ++ flat_map (link_line l.places) l.plan
