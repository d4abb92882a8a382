use Rattle.std.proofs.Common.{◌≡◌, length, eqb, not}
use Rattle.std.specs.List.{filter, fold}
use Rattle.manifest_words.specs.Lines.{words_of}
use Rattle.mtree_manifest.specs.Progress.{with_word}
use Rattle.mtree_manifest.specs.Lining.{line_in}
use Rattle.mtree_manifest.proofs.line.add_words.Given as goal

-- adding the words that are left gives the result
abbrev pub invariant-loop-word : goal.invariant-loop-word
invariant-loop-word l =
    fold with_word (line_in l.line) (filter (λ word. not (eqb (length word) 0)) l.word-iterator)
    ≡ fold with_word (line_in l.fn.line) (words_of l.fn.bytes)
