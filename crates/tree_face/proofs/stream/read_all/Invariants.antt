use Rattle.std.proofs.Common.{length, ◌+◌, ◌-◌, ◌≤◌, ◌≡◌}
use Rattle.tree_face.specs.Known.{Relates}
use Rattle.tree_face.specs.Stream.{AreRead}
use Rattle.tree_face.proofs.stream.read_all.Given as goal

-- what was read so far
abbrev pub invariant-loop-piece : goal.invariant-loop-piece
invariant-loop-piece g l = record {
  within : length l.bytes.items ≤ l.limit + 1;
  read : Relates (AreRead l.bytes.items) (g.I.Source.state l.fn.source).left (g.I.Source.state l.source).left;
  no_fault : (g.I.Source.state l.source).faults ≡ (g.I.Source.state l.fn.source).faults;
}

abbrev pub decreases-loop-piece : goal.decreases-loop-piece
decreases-loop-piece g l = l.limit + 1 - length l.bytes.items
