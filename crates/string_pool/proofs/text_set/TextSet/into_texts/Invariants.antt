use Rattle.std.proofs.Common.{◌≡◌, ◌++◌}
use Rattle.string_pool.proofs.text_set.TextSet.into_texts.Given as goal

-- the texts so far, and then the texts that are left, are all texts
abbrev pub invariant-loop-text : goal.invariant-loop-text
invariant-loop-text l = l.texts ++ l.text-iterator ≡ l.fn.self
