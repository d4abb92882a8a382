use Rattle.std.proofs.Common.{◌≡◌, ◌++◌, drop}
use Rattle.file_trails.proofs.names.add_copies.Given as goal

-- what is left gives the rest
abbrev pub invariant-loop-name : goal.invariant-loop-name
invariant-loop-name l = l.names ++ drop l.name-index l.more ≡ l.fn.names ++ l.more
