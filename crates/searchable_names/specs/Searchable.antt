-- Names that the loader finds in its cache. `_dl_cache_libcmp` (dl-cache.h) compares bytes as `char`, which is signed on x86, and the numbers in
-- names as `int`. An entry with a byte above 127 or a number beyond `int` breaks its binary search, and so hides other entries.
use Rattle.std.specs.Prelude.{ℕ, Bool, false, ◌&&◌, ◌||◌, List, [], ◌∷◌, nat_le, not}
use Rattle.std.specs.Char.{is_ascii_digit}
use Rattle.std.specs.List.{list_all, prefix_len}

-- The most digits of a number that `int` holds, whatever the digits are.
abbrev pub digits_max : ℕ
digits_max = 9

-- the number of digits at the front
abbrev pub digits_len : List ℕ → ℕ
digits_len name = prefix_len is_ascii_digit name

-- more than nine digits in a row
abbrev pub has_long_number : List ℕ → Bool
has_long_number [] = false
has_long_number (b ∷ rest) = not (nat_le (digits_len (b ∷ rest)) digits_max) || has_long_number rest

abbrev pub is_ascii : List ℕ → Bool
is_ascii name = list_all (λ b. nat_le b 127) name

-- each byte is ASCII, and each number has at most nine digits
unfoldable pub is_searchable : List ℕ → Bool
is_searchable name = is_ascii name && not (has_long_number name)
