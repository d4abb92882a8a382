use Rattle.std.proofs.Common.{◌≡◌, ◌≤◌, length, take}
use Rattle.string_pool.specs.Backward.{back_cmp}
use Rattle.string_pool.proofs.backward.compare_bytes_back.Given as goal

-- what is left compares as the whole
abbrev pub invariant-loop-left : goal.invariant-loop-left
invariant-loop-left l = (l.left ≤ length l.a) × (l.right ≤ length l.b) × (back_cmp (take l.left l.a) (take l.right l.b) ≡ back_cmp l.a l.b)

abbrev pub decreases-loop-left : goal.decreases-loop-left
decreases-loop-left l = l.left
