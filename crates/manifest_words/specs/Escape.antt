-- Escapes in the words of a manifest (mtree(5): blanks, backslashes and other bytes are written as vis(3) writes them).
use Rattle.std.specs.Prelude.{◌≡◌, ◌↔◌, ℕ, ◌+◌, ◌-◌, ◌*◌, ◌/◌, ◌%◌, Bool, List, [], ◌∷◌, ◌==◌, ◌&&◌, not, nat_le, if◌then◌else◌, flat_map, map, Option, Some, None, option_map}
use Rattle.std.specs.Str.{byte}

abbrev pub backslash : ℕ
backslash = byte "\\"

-- the byte that a backslash and this letter represent: a blank, a tab, a line feed, or the letter itself
abbrev pub letter : ℕ → Option ℕ
letter c =
    if c == byte "s" then Some 32 else
    if c == byte "t" then Some 9 else
    if c == byte "n" then Some 10 else
    if c == backslash then Some backslash else
    if c == byte "#" then Some (byte "#") else None

abbrev pub is_octal : ℕ → Bool
is_octal c = nat_le (byte "0") c && nat_le c (byte "7")

abbrev pub octal_value : ℕ → ℕ → ℕ → ℕ
octal_value a b c = 64 * (a - byte "0") + 8 * (b - byte "0") + (c - byte "0")

-- the byte of three octal digits from 001 to 377
abbrev pub octal : ℕ → ℕ → ℕ → Option ℕ
octal a b c =
    if is_octal a && is_octal b && is_octal c && nat_le 1 (octal_value a b c) && nat_le (octal_value a b c) 255
    then Some (octal_value a b c) else None

-- the byte and then the bytes, if both are given
abbrev pub in_front : Option ℕ → Option (List ℕ) → Option (List ℕ)
in_front None text = None
in_front (Some b) text = option_map (λ bytes. b ∷ bytes) text

-- the decoded text of an escape: if it is a letter, its byte and the text after the letter; else the byte of three octal digits and the
-- text after the digits
abbrev pub escape : Option ℕ → Option (List ℕ) → Option ℕ → Option (List ℕ) → Option (List ℕ)
escape (Some b) after_letter digits after_digits = in_front (Some b) after_letter
escape None after_letter digits after_digits = in_front digits after_digits

-- The bytes that a word represents; None if a backslash doesn't begin an escape. Each byte except a backslash represents itself.
unfoldable pub decoded : List ℕ → Option (List ℕ)
decoded [] = Some []
decoded (b ∷ []) = if b == backslash then None else in_front (Some b) (decoded [])
decoded (b ∷ c ∷ []) =
    if b == backslash then in_front (letter c) (decoded []) else in_front (Some b) (decoded (c ∷ []))
decoded (b ∷ c ∷ d ∷ []) =
    if b == backslash then in_front (letter c) (decoded (d ∷ [])) else in_front (Some b) (decoded (c ∷ d ∷ []))
decoded (b ∷ c ∷ d ∷ e ∷ rest) =
    if b == backslash
    then escape (letter c) (decoded (d ∷ e ∷ rest)) (octal c d e) (decoded rest)
    else in_front (Some b) (decoded (c ∷ d ∷ e ∷ rest))

-- ---- the same as a relation: a word is a sequence of texts, each of which represents one byte

-- the byte that a text represents; the text is a byte except a backslash, or a backslash with a letter or three octal digits
abbrev pub byte_of : List ℕ → Option ℕ
byte_of (b ∷ []) = if b == backslash then None else Some b
byte_of (b ∷ c ∷ []) = if b == backslash then letter c else None
byte_of (b ∷ c ∷ d ∷ e ∷ []) = if b == backslash then octal c d e else None
byte_of _ = None

pub record Represents (word bytes : List ℕ) : Type 0 where
  pub texts : List (List ℕ)
  pub joined : flat_map (λ text. text) texts ≡ word
  pub each : map byte_of texts ≡ map Some bytes

-- A word decodes to bytes exactly if it represents these bytes.
abbrev pub DecodesAll : Type 0
DecodesAll = (word bytes : List ℕ) → (decoded word ≡ Some bytes) ↔ Represents word bytes

-- the bytes that are not escaped in the canonical text: printable ASCII except blank, backslash and `#`
abbrev pub is_unescaped : ℕ → Bool
is_unescaped b = nat_le 33 b && nat_le b 126 && not (b == backslash) && not (b == byte "#")

abbrev pub octal_digits : ℕ → List ℕ
octal_digits b = (byte "0" + b / 64) ∷ (byte "0" + b / 8 % 8) ∷ (byte "0" + b % 8) ∷ []

abbrev pub escaped_byte : ℕ → List ℕ
escaped_byte b = if is_unescaped b then b ∷ [] else backslash ∷ octal_digits b

-- the bytes as they are escaped in the canonical text
abbrev pub escaped : List ℕ → List ℕ
escaped bytes = flat_map escaped_byte bytes
