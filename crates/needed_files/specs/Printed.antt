-- The list of files as text: one path a line, as tar(1) reads them with -T.
use Rattle.std.specs.Prelude.{◌++◌, ◌∷◌, [], ℕ, List, drop, flat_map}

-- the path relative to the root
abbrev pub path_line : ℕ → List ℕ → List ℕ
path_line end path = drop 1 path ++ end ∷ []

unfoldable pub list_text : ℕ → List (List ℕ) → List ℕ
list_text end files = flat_map (path_line end) files
