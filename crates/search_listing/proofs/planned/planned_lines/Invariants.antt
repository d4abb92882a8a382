use Rattle.std.proofs.Common.{◌≡◌, ◌++◌, drop}
use Rattle.std.specs.List.{flat_map}
use Rattle.search_listing.specs.Lines.{planned_line}
use Rattle.search_listing.proofs.planned.planned_lines.Given as goal

-- the remaining links give the rest
abbrev pub invariant-loop-planned : goal.invariant-loop-planned
invariant-loop-planned l = l.out.items ++ flat_map (planned_line l.front) (drop l.planned-index l.links) ≡ flat_map (planned_line l.front) l.links
