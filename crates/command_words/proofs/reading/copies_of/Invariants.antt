use Rattle.std.proofs.Common.{◌≡◌, ◌++◌, drop, map}
use Rattle.command_words.proofs.reading.copies_of.Given as goal

-- what is left gives the rest
abbrev pub invariant-loop-text : goal.invariant-loop-text
invariant-loop-text l = l.copies ++ map (λ t. t.now) (drop l.text-index l.texts) ≡ map (λ t. t.now) l.texts
