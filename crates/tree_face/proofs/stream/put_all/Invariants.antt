use Rattle.std.proofs.Common.{length, ◌-◌, ◌≤◌, ◌≡◌, take}
use Rattle.tree_face.specs.Follows.{IsFollowedBy}
use Rattle.tree_face.specs.Known.{Relates}
use Rattle.tree_face.proofs.stream.put_all.Given as goal

-- what was taken so far
abbrev pub invariant-loop-at : goal.invariant-loop-at
invariant-loop-at g l = record {
  within : l.at ≤ length l.bytes;
  written : Relates (IsFollowedBy (take l.at l.bytes)) (g.O.Sink.state l.fn.sink).written (g.O.Sink.state l.sink).written;
  no_fault : (g.O.Sink.state l.sink).faults ≡ (g.O.Sink.state l.fn.sink).faults;
}

abbrev pub decreases-loop-at : goal.decreases-loop-at
decreases-loop-at g l = length l.bytes - l.at
