-- What is shown of a text. Control characters, invisible characters and bytes that are not UTF-8 are escaped: they can steer a terminal, put text
-- in another order (Unicode Standard Annex 9), or hide a part of it.
use Rattle.std.specs.Prelude.{ℕ, zero, suc, ◌+◌, ◌*◌, ◌/◌, ◌%◌, ◌==◌, ◌&&◌, ◌||◌, Bool, not, bit_and, List, [], ◌∷◌, ◌++◌, length, take, if◌then◌else◌}
use Rattle.std.specs.Char.{is_control}
use Rattle.std.specs.Int.{is_in_range}
use Rattle.std.specs.List.{slice_index}
use Rattle.std.specs.Str.{continuation_len, is_utf8}

-- Characters that can't be seen: marks and isolates of the direction of text, separators of lines, joiners, annotations and tags.
abbrev pub is_invisible : ℕ → Bool
is_invisible c = c == 0x061C || is_in_range 0x200B 0x200F c || is_in_range 0x2028 0x202E c || is_in_range 0x2060 0x206F c || c == 0xFEFF
    || is_in_range 0xFFF9 0xFFFB c || is_in_range 0xE0000 0xE007F c

-- line feeds and tabs are characters of a text of lines, and not of a name
abbrev pub is_plain : Bool → ℕ → Bool
is_plain in_lines c = not (is_control c || is_invisible c) || (in_lines && (c == 9 || c == 10))

-- the code of a character of one to four bytes, from its bytes in UTF-8 (RFC 3629, section 3)
abbrev pub code_of : List ℕ → ℕ
code_of char = if length char == 1 then first else
    (if length char == 2 then bit_and first 0x1F * 64 + low 1 else
    (if length char == 3 then (bit_and first 0x0F * 64 + low 1) * 64 + low 2 else
    (if length char == 4 then ((bit_and first 0x07 * 64 + low 1) * 64 + low 2) * 64 + low 3 else 0)))
  where
    first : ℕ
    first = slice_index char 0

    low : ℕ → ℕ
    low i = bit_and (slice_index char i) 0x3F

-- the bytes of the first character, if they are all there
abbrev pub first_char : List ℕ → List ℕ
first_char text = take (continuation_len (slice_index text 0) + 1) text

-- the number of bytes of the first character, if it is shown as it is
unfoldable pub plain_len : Bool → List ℕ → ℕ
plain_len in_lines text = if is_utf8 (first_char text) && is_plain in_lines (code_of (first_char text)) then length (first_char text) else 0

-- a backslash and three octal digits
abbrev pub escape_of : ℕ → List ℕ
escape_of b = 92 ∷ (48 + b / 64) ∷ (48 + (b / 8) % 8) ∷ (48 + b % 8) ∷ []

-- the first byte as it is shown, and how many bytes follow it in its character: n is the length of this character, or 0 if it isn't plain
abbrev pub first_shown : ℕ → ℕ → List ℕ
first_shown b zero = escape_of b
first_shown b (suc n) = b ∷ []

abbrev pub following : ℕ → ℕ
following zero = zero
following (suc n) = n

-- what is shown of the rest of a text, of which the next n bytes belong to a character that is shown as it is
abbrev pub shown_after : Bool → ℕ → List ℕ → List ℕ
shown_after in_lines n [] = []
shown_after in_lines (suc n) (b ∷ rest) = b ∷ shown_after in_lines n rest
shown_after in_lines zero (b ∷ rest) =
    first_shown b (plain_len in_lines (b ∷ rest)) ++ shown_after in_lines (following (plain_len in_lines (b ∷ rest))) rest

-- the text with each byte escaped that doesn't belong to a plain character
abbrev pub shown : Bool → List ℕ → List ℕ
shown in_lines text = shown_after in_lines zero text
