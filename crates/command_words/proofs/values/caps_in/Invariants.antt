use Rattle.std.proofs.Common.{◌≡◌, ◌++◌, filter}
use Rattle.command_words.specs.Values.{caps_in, is_cap}
use Rattle.command_words.proofs.values.caps_in.Given as goal

-- the texts that are left follow those that are found
abbrev pub invariant-loop-part : goal.invariant-loop-part
invariant-loop-part l = l.caps ++ filter is_cap l.part-iterator ≡ caps_in l.fn.text
