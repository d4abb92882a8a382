-- Which names a component of a pattern matches (glob(7), with bytes for characters).
use Rattle.std.specs.Prelude.{ℕ, zero, suc, ◌+◌, Bool, true, false, List, [], ◌∷◌, ◌==◌, ◌&&◌, ◌||◌, not, nat_le, nat_eq, if◌then◌else◌, codes, length, take, drop, position, Option, Some, None, option_map}
use Rattle.std.specs.List.{list_any, starts_with}
use Rattle.std.specs.Str.{byte}

-- one part of a pattern
pub data Part : Type 0 where
  -- `*`: zero or more bytes
  Star : Part
  -- `?`: any one byte
  One : Part
  -- this byte
  Byte : ℕ → Part
  -- `[..]`: one byte of the set between the brackets
  Set : List ℕ → Part

-- ---- sets

-- a `!` or `^` as the first byte negates the set
abbrev pub is_negated : List ℕ → Bool
is_negated [] = false
is_negated (b ∷ rest) = b == byte "!" || b == byte "^"

-- A `]` directly after the `[` or after the negation is a member of the set.
-- This is the number of bytes after the `[` that can't close the set.
abbrev pub no_end : List ℕ → ℕ
no_end following = if is_negated following then 2 else 1

abbrev pub is_close : ℕ → Bool
is_close b = b == byte "]"

-- the number of bytes between a `[` and the `]` that closes the set, if there is one
abbrev pub set_len : List ℕ → Option ℕ
set_len following = option_map (λ n. no_end following + n) (position is_close (drop (no_end following) following))

-- the ranges of a set, as pairs of first and last byte: `a-z`, or a single byte
abbrev pub ranges : List ℕ → List (ℕ × ℕ)
ranges [] = []
ranges (low ∷ []) = (low, low) ∷ []
ranges (low ∷ next ∷ []) = (low, low) ∷ (next, next) ∷ []
ranges (low ∷ next ∷ high ∷ rest) =
    if next == byte "-" then (low, high) ∷ ranges rest else (low, low) ∷ ranges (next ∷ high ∷ rest)

abbrev pub is_member : List ℕ → ℕ → Bool
is_member set b = list_any (λ range. nat_le range.0 b && nat_le b range.1) (ranges set)

abbrev pub is_in_set : List ℕ → ℕ → Bool
is_in_set set b = if is_negated set then not (is_member (drop 1 set) b) else is_member set b

-- ---- patterns

-- a `[` without a closing `]` matches itself
abbrev pub set_or : ℕ → List ℕ → Option ℕ → Part
set_or b following (Some n) = Set (take n following)
set_or b following None = Byte b

-- the part that begins with this byte
abbrev pub part_at : ℕ → List ℕ → Part
part_at b following =
    if b == byte "*" then Star else
    if b == byte "?" then One else
    if b == byte "[" then set_or b following (set_len following) else Byte b

-- the number of bytes of a part after its first byte: a set has its members and the closing bracket
abbrev pub more_of : Part → ℕ
more_of Star = 0
more_of One = 0
more_of (Byte b) = 0
more_of (Set set) = length set + 1

-- the parts of a pattern, except its first `n` bytes, which belong to an earlier part
abbrev pub parts_after : ℕ → List ℕ → List Part
parts_after n [] = []
parts_after zero (b ∷ following) = part_at b following ∷ parts_after (more_of (part_at b following)) following
parts_after (suc n) (b ∷ following) = parts_after n following

abbrev pub parts : List ℕ → List Part
parts pattern = parts_after 0 pattern

abbrev pub is_star : Part → Bool
is_star Star = true
is_star One = false
is_star (Byte b) = false
is_star (Set set) = false

-- whether the part matches this byte; false for a star, which isn't matched byte by byte
abbrev pub takes : Part → ℕ → Bool
takes Star b = false
takes One b = true
takes (Byte x) b = x == b
takes (Set set) b = is_in_set set b

-- the test passes on some suffix of the name; the whole name and the empty suffix count too
abbrev pub some_tail : (List ℕ → Bool) → List ℕ → Bool
some_tail test [] = test []
some_tail test (b ∷ rest) = test (b ∷ rest) || some_tail test rest

-- the part matches the first byte of the name, and the test passes on the rest
abbrev pub first_and_rest : Part → (List ℕ → Bool) → List ℕ → Bool
first_and_rest part test [] = false
first_and_rest part test (b ∷ rest) = takes part b && test rest

-- the parts match the whole name
abbrev pub matches : List Part → List ℕ → Bool
matches [] name = length name == 0
matches (part ∷ rest) name =
    if is_star part then some_tail (λ tail. matches rest tail) name
    else first_and_rest part (λ tail. matches rest tail) name

abbrev pub is_hidden : List ℕ → Bool
is_hidden name = starts_with nat_eq name (codes ".")

-- If a name begins with a dot, only a pattern that begins with a dot matches it.
unfoldable pub glob_match : List ℕ → List ℕ → Bool
glob_match pattern name = (is_hidden pattern || not (is_hidden name)) && matches (parts pattern) name
