-- Pairing each soname with its predecessor or with its successor gives the same lines.
use Rattle.std.proofs.Common.{◌≡◌, ℕ, List, [], ◌∷◌, ◌++◌, refl, ap, Some, None}
use Rattle.std.specs.List.{flat_map, zip}
use Rattle.update_report.specs.Lines.{line_of_twins}
use Rattle.update_report.specs.Report.{twin_lines}
use Rattle.update_report.specs.Twins.{twins_after}

following : (before : List ℕ) (sonames : List (List ℕ)) → twins_after (Some before) sonames ≡ flat_map line_of_twins (zip (before ∷ sonames) sonames)
following before [] = refl
following before (soname ∷ rest) = ap (λ lines. line_of_twins (before, soname) ++ lines) (following soname rest)

pub by_neighbours : (sonames : List (List ℕ)) → twins_after None sonames ≡ twin_lines sonames
by_neighbours [] = refl
by_neighbours (soname ∷ rest) = following soname rest
