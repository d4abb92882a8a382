use Rattle.std.proofs.Common.{◌≤◌}
use Rattle.name_order.specs.Digits.{AreDigitsWithin}
use Rattle.name_order.proofs.front.digits_from.Given as goal

abbrev pub invariant-loop-i : goal.invariant-loop-i
invariant-loop-i l = (l.i ≤ l.end) × AreDigitsWithin l.name l.i l.end

abbrev pub decreases-loop-i : goal.decreases-loop-i
decreases-loop-i l = l.i
