use Rattle.std.proofs.Common.{◌≡◌, ◌≤◌, false, length, drop}
use Rattle.std.specs.Prelude.{codes}
use Rattle.name_order.specs.LibraryName.{contains}
use Rattle.name_order.proofs.contains_so.Given as goal

-- the bytes from i on don't contain `.so`
abbrev pub invariant-loop-i : goal.invariant-loop-i
invariant-loop-i l = (l.i ≤ length l.name) × (contains (codes ".so") (drop l.i l.name) ≡ false)

abbrev pub decreases-loop-i : goal.decreases-loop-i
decreases-loop-i l = l.i
