use Rattle.std.proofs.Common.{◌≡◌, ◌++◌, drop}
use Rattle.std.specs.List.{flat_map}
use Rattle.ldd_resolve.specs.Printed.{line}
use Rattle.ldd_resolve.proofs.printing.lines_of.Given as goal

-- the text so far and the lines of the remaining items are the whole text
abbrev pub invariant-loop-item : goal.invariant-loop-item
invariant-loop-item l = l.text.items ++ flat_map line (drop l.item-index l.listing) ≡ flat_map line l.fn.listing
