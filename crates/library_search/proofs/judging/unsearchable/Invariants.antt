use Rattle.std.proofs.Common.{◌≡◌, ◌++◌}
use Rattle.library_search.specs.Unsearchable.{unsearchable}
use Rattle.library_search.proofs.judging.unsearchable.Given as goal

-- the remaining rows give the rest
abbrev pub invariant-loop-path : goal.invariant-loop-path
invariant-loop-path l = l.paths.items ++ unsearchable l.path-iterator ≡ unsearchable l.table
