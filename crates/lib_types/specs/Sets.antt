-- Sets of bytes, and lists of bytes stripped of the bytes of a set at the front or at the end.
use Rattle.std.specs.Prelude.{ℕ, ◌-◌, Bool, List, [], ◌∷◌, ◌==◌, length, take, drop, codes}
use Rattle.std.specs.List.{list_any, prefix_len, suffix_len}

abbrev pub is_in : List ℕ → ℕ → Bool
is_in set b = list_any (λ x. x == b) set

abbrev pub line_feed : List ℕ
line_feed = 10 ∷ []

abbrev pub slashes : List ℕ
slashes = codes "/"

-- space and tab
abbrev pub blanks : List ℕ
blanks = 32 ∷ 9 ∷ []

-- space, tab, vertical tab, form feed and carriage return
abbrev pub spaces : List ℕ
spaces = 32 ∷ 9 ∷ 11 ∷ 12 ∷ 13 ∷ []

abbrev pub without_front : List ℕ → List ℕ → List ℕ
without_front set bytes = drop (prefix_len (is_in set) bytes) bytes

abbrev pub without_end : List ℕ → List ℕ → List ℕ
without_end set bytes = take (length bytes - suffix_len (is_in set) bytes) bytes
