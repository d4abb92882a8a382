use Rattle.std.proofs.Common.{◌≡◌, length}
use Rattle.name_order.specs.Order.{token_order}
use Rattle.name_order.proofs.compare_by_parts.Given as goal

-- the rests of both names compare like the whole names
abbrev pub invariant-loop-part : goal.invariant-loop-part
invariant-loop-part l = token_order l.left l.right ≡ token_order l.fn.a l.fn.b

abbrev pub decreases-loop-part : goal.decreases-loop-part
decreases-loop-part l = length l.left
