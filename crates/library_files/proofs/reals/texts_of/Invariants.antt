use Rattle.std.proofs.Common.{◌≡◌, ◌++◌}
use Rattle.library_files.proofs.reals.texts_of.Given as goal

-- the remaining texts give the rest
abbrev pub invariant-loop-text : goal.invariant-loop-text
invariant-loop-text l = l.texts ++ l.text-iterator ≡ l.fn.met.keys
