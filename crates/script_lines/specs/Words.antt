-- The words of a line that is partly read.
use Rattle.std.specs.Prelude.{◌≡◌, ◌==◌, ℕ, true, not, List, ◌∷◌, filter, length, Option, IfSome}
use Rattle.lib_types.specs.Splits.{parts_of}
use Rattle.manifest_words.specs.Lines.{goes_on, is_blank, words_of}

-- the words in the text that is left
abbrev pub words_left : Option (List ℕ) → List (List ℕ)
words_left bytes = filter (λ word. not (length word == 0)) (parts_of is_blank bytes)

-- the text that is left is continued on the next line only if the whole line is
abbrev pub EndsAlike : List ℕ → Option (List ℕ) → Type 0
EndsAlike line left = IfSome left (λ bytes. goes_on bytes ≡ true → goes_on line ≡ true)

-- the first word of the line, and the rest; the rest is continued on the next line only if the line is
pub record IsFirst (line word rest : List ℕ) : Type 0 where
  pub words : words_of line ≡ word ∷ words_of rest
  pub ends : goes_on rest ≡ true → goes_on line ≡ true
