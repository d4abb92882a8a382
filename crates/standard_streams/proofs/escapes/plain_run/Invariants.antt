use Rattle.std.proofs.Common.{◌≡◌, ◌≤◌, ◌-◌, ◌++◌, drop, length, take}
use Rattle.standard_streams.specs.Shown.{shown}
use Rattle.standard_streams.proofs.escapes.plain_run.Given as goal

-- what was passed is shown as it is
abbrev pub invariant-loop-at : goal.invariant-loop-at
invariant-loop-at l = record {
  within : l.at ≤ length l.text;
  shown : shown l.in_lines l.text ≡ take l.at l.text ++ shown l.in_lines (drop l.at l.text);
}

abbrev pub decreases-loop-at : goal.decreases-loop-at
decreases-loop-at l = length l.text - l.at
