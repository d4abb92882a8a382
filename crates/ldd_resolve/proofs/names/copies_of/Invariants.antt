use Rattle.std.proofs.Common.{◌≡◌, ◌++◌, drop}
use Rattle.ldd_resolve.proofs.names.copies_of.Given as goal

-- the copies so far and the remaining names are all names
abbrev pub invariant-loop-name : goal.invariant-loop-name
invariant-loop-name l = l.copies ++ drop l.name-index l.names ≡ l.fn.names
