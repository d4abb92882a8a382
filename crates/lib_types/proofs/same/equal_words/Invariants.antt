use Rattle.std.proofs.Common.{length, ◌-◌, ◌≡◌, ◌≤◌, take}
use Rattle.lib_types.proofs.same.equal_words.Given as goal

abbrev pub invariant-loop-i : goal.invariant-loop-i
invariant-loop-i l = (l.i ≤ l.shorter) × (l.shorter ≤ length l.a) × (l.shorter ≤ length l.b) × (take l.i l.a ≡ take l.i l.b)

abbrev pub decreases-loop-i : goal.decreases-loop-i
decreases-loop-i l = l.shorter - l.i
