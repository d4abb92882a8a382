-- The code compares each soname with its predecessor.
use Rattle.std.specs.Prelude.{ℕ, List, [], ◌∷◌, ◌++◌, Option, Some, None}
use Rattle.update_report.specs.Lines.{line_of_twins}

-- the line for a soname and its predecessor, if there is one and they compare equal
abbrev pub twin_after : Option (List ℕ) → List ℕ → List ℕ
twin_after (Some before) soname = line_of_twins (before, soname)
twin_after None soname = []

-- the lines for these sonames, the first compared with the given predecessor
abbrev pub twins_after : Option (List ℕ) → List (List ℕ) → List ℕ
twins_after before [] = []
twins_after before (soname ∷ rest) = twin_after before soname ++ twins_after (Some soname) rest
