use Rattle.std.proofs.Common.{◌≡◌, ◌++◌, length}
use Rattle.standard_streams.specs.Shown.{shown}
use Rattle.standard_streams.proofs.escapes.shown.Given as goal

-- what is shown so far, and then of the rest, is shown of the text
abbrev pub invariant-loop-rest : goal.invariant-loop-rest
invariant-loop-rest g l = l.bytes.items ++ shown l.in_lines l.rest ≡ shown l.in_lines l.fn.text

abbrev pub decreases-loop-rest : goal.decreases-loop-rest
decreases-loop-rest g l = length l.rest
