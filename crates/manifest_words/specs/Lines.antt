-- The lines of a manifest and their words (mtree(5)).
use Rattle.std.specs.Prelude.{ℕ, ◌+◌, ◌-◌, Bool, List, [], ◌∷◌, ◌++◌, ◌==◌, ◌||◌, not, nat_eq, if◌then◌else◌, map, filter, length, take}
use Rattle.std.specs.List.{slice_split, ends_with}
use Rattle.bstr.specs.Text.{lines_of, without_terminator}
use Rattle.manifest_words.specs.Escape.{backslash}

-- the physical lines, each without its line feed and without a carriage return before the line feed
abbrev pub physical_lines : List ℕ → List (List ℕ)
physical_lines text = map without_terminator (lines_of text)

abbrev pub is_blank : ℕ → Bool
is_blank b = b == 32 || b == 9

-- the words between the blanks
abbrev pub words_of : List ℕ → List (List ℕ)
words_of line = filter (λ word. not (length word == 0)) (slice_split is_blank line)

-- the line is continued on the next line
abbrev pub goes_on : List ℕ → Bool
goes_on line = ends_with nat_eq line (backslash ∷ [])

-- the words of a physical line; a backslash at its end counts as a blank
abbrev pub physical_words : List ℕ → List (List ℕ)
physical_words line = words_of (if goes_on line then take (length line - 1) line else line)

-- a joined line: its words, and the number of its first physical line
pub record Line : Type 0 where
  pub number : ℕ
  pub words : List (List ℕ)

-- a continued line: its words come before the words of the next line, if there is a next line
abbrev pub before : ℕ → List (List ℕ) → List Line → List Line
before number words [] = record { number = number; words = words } ∷ []
before number words (line ∷ lines) = record { number = number; words = words ++ line.words } ∷ lines

abbrev pub joined_before : ℕ → List ℕ → List Line → List Line
joined_before number line lines =
    if goes_on line then before number (physical_words line) lines
    else record { number = number; words = physical_words line } ∷ lines

-- the joined lines of physical lines; the first physical line has this number
abbrev pub joined : ℕ → List (List ℕ) → List Line
joined number [] = []
joined number (line ∷ lines) = joined_before number line (joined (number + 1) lines)

-- the joined lines of a text
abbrev pub lines_in : List ℕ → List Line
lines_in text = joined 1 (physical_lines text)
