use Rattle.std.proofs.Common.{◌≡◌, length}
use Rattle.conf_patterns.specs.Glob.{matches, some_tail}
use Rattle.conf_patterns.proofs.glob.seek.Given as goal

-- no earlier position matches
abbrev pub invariant-loop-pieces : goal.invariant-loop-pieces
invariant-loop-pieces l = some_tail (matches l.pieces) l.left ≡ some_tail (matches l.fn.pieces) l.fn.name

abbrev pub decreases-loop-pieces : goal.decreases-loop-pieces
decreases-loop-pieces l = length l.left
