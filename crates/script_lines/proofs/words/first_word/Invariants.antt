use Rattle.std.proofs.Common.{◌≡◌}
use Rattle.std.specs.Option.{option_copied}
use Rattle.manifest_words.specs.Lines.{words_of}
use Rattle.lib_types.specs.Splits.{size_of}
use Rattle.script_lines.specs.Words.{EndsAlike, words_left}
use Rattle.script_lines.proofs.words.first_word.Given as goal

-- the words that are left are the words of the line
abbrev pub invariant-loop-left : goal.invariant-loop-left
invariant-loop-left l = (words_left (option_copied l.left) ≡ words_of l.fn.line) × EndsAlike l.fn.line (option_copied l.left)

abbrev pub decreases-loop-left : goal.decreases-loop-left
decreases-loop-left l = size_of (option_copied l.left)
