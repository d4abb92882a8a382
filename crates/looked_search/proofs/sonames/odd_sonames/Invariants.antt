use Rattle.std.proofs.Common.{◌≡◌, ◌++◌}
use Rattle.looked_search.specs.Sonames.{odd_sonames}
use Rattle.looked_search.proofs.sonames.odd_sonames.Given as goal

-- the remaining rows give the rest
abbrev pub invariant-loop-path : goal.invariant-loop-path
invariant-loop-path l = l.sonames.items ++ odd_sonames l.path-iterator ≡ odd_sonames l.table
