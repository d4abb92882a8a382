use Rattle.std.proofs.Common.{◌≡◌}
use Rattle.conf_patterns.specs.Glob.{matches}
use Rattle.conf_patterns.specs.Matching.{comes_to, left_in}
use Rattle.conf_patterns.proofs.glob.match_pieces.Given as goal

abbrev pub invariant-loop-found : goal.invariant-loop-found
invariant-loop-found l = comes_to l.found ≡ matches l.fn.pieces l.fn.name

abbrev pub decreases-loop-found : goal.decreases-loop-found
decreases-loop-found l = left_in l.found
