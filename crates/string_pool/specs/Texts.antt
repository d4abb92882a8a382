-- Different texts of a file and their positions (the string tables of glibc's dl-cache.h).
use Rattle.std.specs.Prelude.{◌≡◌, ℕ, ◌+◌, List, [], ◌∷◌, ◌++◌, length, take, drop}
use Rattle.std.specs.List.{position_or_len}
use Rattle.std.specs.Str.{bytes_eq}

-- the number of a text: its index among these
abbrev pub number_of : List (List ℕ) → List ℕ → ℕ
number_of texts text = position_or_len (bytes_eq text) texts

-- a text as it is in a file
abbrev pub with_nul : List ℕ → List ℕ
with_nul text = text ++ 0 ∷ []

-- a text with its NUL is at this offset
abbrev pub IsTextAt : List ℕ → ℕ → List ℕ → Type 0
IsTextAt bytes at text = take (length text + 1) (drop at bytes) ≡ with_nul text
