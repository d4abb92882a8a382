-- Paths that a word has without escapes.
use Rattle.std.specs.Prelude.{◌≡◌, ◌⊎◌, ℕ, Bool, List, [], ◌∷◌, ◌++◌, ◌==◌, ◌&&◌, not, nat_le, nat_lt, length, IsTrue}
use Rattle.std.specs.List.{list_any}
use Rattle.lib_types.specs.Name.{slash, are_dots}
use Rattle.lib_types.specs.declared.name.TheConstants.{NAME_MAX}
use Rattle.image_tree.specs.Paths.{is_path}
use Rattle.manifest_words.specs.Escape.{backslash}

-- a byte that is ASCII, represents itself in a word, and doesn't separate names
abbrev pub is_own : ℕ → Bool
is_own b = not (b == slash) && not (b == 0) && not (b == backslash) && nat_lt b 128

-- a name has the length of a name, and isn't `.` or `..`
abbrev pub is_short : List ℕ → Bool
is_short name = nat_le 1 (length name) && nat_le (length name) NAME_MAX && not (are_dots name)

abbrev pub is_plain_path : List ℕ → Bool
is_plain_path path = is_path path && not (list_any (λ b. b == backslash) path)

-- a path without escapes that was read before, or empty
abbrev pub IsKnown : List ℕ → Type 0
IsKnown path = (path ≡ []) ⊎ IsTrue (is_plain_path path)

-- the path is the folder, or is below it
abbrev pub IsAbove : List ℕ → List ℕ → Type 0
IsAbove folder path = (path ≡ folder) ⊎ ((rest : List ℕ) × (path ≡ folder ++ slash ∷ rest))
