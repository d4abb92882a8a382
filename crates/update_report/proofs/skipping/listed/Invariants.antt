use Rattle.std.proofs.Common.{◌≡◌, ◌++◌, map}
use Rattle.update_report.specs.ByPath.{skip_of}
use Rattle.update_report.proofs.skipping.listed.Given as goal

-- the list so far and the remaining files are the whole list
abbrev pub invariant-loop-path : goal.invariant-loop-path
invariant-loop-path l = l.skips ++ map skip_of l.path-iterator ≡ map skip_of l.fn.found.entries
