-- The parts of paths.
use Rattle.std.specs.Prelude.{ℕ, ◌+◌, Bool, List, [], ◌∷◌, nat_eq, if◌then◌else◌, drop, length, unwrap_or, Option, Some, None}
use Rattle.std.specs.List.{starts_with}
use Rattle.image_tree.specs.Paths.{root, is_slash}

-- the path is absolute
abbrev pub is_absolute : List ℕ → Bool
is_absolute text = starts_with nat_eq text root

-- the text before the last slash
abbrev pub more_before : ℕ → Option (List ℕ) → Option (List ℕ)
more_before b (Some front) = Some (b ∷ front)
more_before b None = if is_slash b then Some [] else None

abbrev pub before_last : List ℕ → Option (List ℕ)
before_last [] = None
before_last (b ∷ rest) = more_before b (before_last rest)

-- the directory of a path; the root is its own directory
abbrev pub unless_empty : List ℕ → List ℕ
unless_empty [] = root
unless_empty (b ∷ rest) = b ∷ rest

abbrev pub parent : List ℕ → List ℕ
parent place = unless_empty (unwrap_or (before_last place) [])

-- the bytes after the last slash of a path
abbrev pub last : List ℕ → List ℕ
last path = drop (length (unwrap_or (before_last path) []) + 1) path
