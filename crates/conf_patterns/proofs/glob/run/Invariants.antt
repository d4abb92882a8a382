use Rattle.std.proofs.Common.{◌≤◌, length}
use Rattle.conf_patterns.specs.Matching.{Goes}
use Rattle.conf_patterns.proofs.glob.run.Given as goal

abbrev pub invariant-loop-piece : goal.invariant-loop-piece
invariant-loop-piece l = record {
  goes : Goes l.fn.pieces l.pieces l.fn.name l.left;
  fewer : length l.pieces ≤ length l.fn.pieces;
}

abbrev pub decreases-loop-piece : goal.decreases-loop-piece
decreases-loop-piece l = length l.pieces
