-- Texts without repetitions.
use Rattle.std.specs.Prelude.{ℕ, List, [], ◌∷◌, filter, not}
use Rattle.std.specs.Str.{bytes_eq}

-- each text once, in the order of first occurrence
abbrev pub distinct : List (List ℕ) → List (List ℕ)
distinct [] = []
distinct (text ∷ texts) = text ∷ filter (λ other. not (bytes_eq text other)) (distinct texts)
