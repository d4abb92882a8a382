use Rattle.std.proofs.Common.{◌≡◌, ◌++◌}
use Rattle.library_files.proofs.links.append.Given as goal

-- the remaining texts are the rest
abbrev pub invariant-loop-text : goal.invariant-loop-text
invariant-loop-text l = l.all ++ l.text-iterator.rest.items ≡ l.fn.all ++ l.fn.texts
