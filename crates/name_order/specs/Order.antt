-- The order in which ldconfig(8) writes library names into its cache and ld.so(8) looks them up there. For ASCII names with numbers below
-- 2 ^ 31 it is the order of `_dl_cache_libcmp` in dl-cache.h. Here bytes above 127 compare as unsigned values, and a number may have any
-- size.
use Rattle.std.specs.Prelude.{ℕ, ◌+◌, ◌-◌, ◌*◌, List, [], ◌∷◌, ◌++◌, if◌then◌else◌, Option, Some, None, unwrap_or}
use Rattle.std.specs.Str.{byte}
use Rattle.std.specs.List.{fold}
use Rattle.std.specs.Char.{is_ascii_digit}
use Rattle.std.specs.Cmp.Lexicographic.{slice_cmp}
use Rattle.std.specs.declared.cmp.Ordering.{Ordering}
use Rattle.std.specs.declared.cmp.Ordering.TheVariants.{Less, Greater}
use Rattle.std.specs.Ordering.{nat_cmp, then_cmp}

-- a unit of comparison: a byte, or the number that a maximal run of ASCII digits represents
pub data Token : Type 0 where
  Byte : ℕ → Token
  Number : ℕ → Token

-- the number n with this digit appended
abbrev pub with_digit : ℕ → ℕ → ℕ
with_digit n digit = 10 * n + (digit - byte "0")

-- the number that the digits represent
abbrev pub value : List ℕ → ℕ
value digits = fold with_digit 0 digits

-- the token of the number read so far, if there is one
abbrev pub number_token : Option ℕ → List Token
number_token None = []
number_token (Some n) = Number n ∷ []

-- the tokens of the number read so far and the bytes that follow it
abbrev pub tokens_after : Option ℕ → List ℕ → List Token
tokens_after number [] = number_token number
tokens_after number (b ∷ rest) =
    if is_ascii_digit b then tokens_after (Some (with_digit (unwrap_or number 0) b)) rest
    else number_token number ++ Byte b ∷ tokens_after None rest

-- the maximal runs of digits and the other bytes, from the left
unfoldable pub tokens : List ℕ → List Token
tokens name = tokens_after None name

-- a byte is below a number
abbrev pub token_cmp : Token → Token → Ordering
token_cmp (Byte a) (Byte b) = nat_cmp a b
token_cmp (Byte a) (Number n) = Less
token_cmp (Number m) (Byte b) = Greater
token_cmp (Number m) (Number n) = nat_cmp m n

-- the loader's order: the first pair of tokens that differs decides, and the end of a name is below each token
abbrev pub token_order : List ℕ → List ℕ → Ordering
token_order a b = slice_cmp token_cmp (tokens a) (tokens b)

-- the loader's order, then the order of the bytes
abbrev pub name_order : List ℕ → List ℕ → Ordering
name_order = then_cmp token_order (slice_cmp nat_cmp)
