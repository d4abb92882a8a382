-- How the code decodes a word: from the front, one byte or escape at a time.
use Rattle.std.specs.Prelude.{◌≡◌, ℕ, Bool, true, false, List, [], ◌∷◌, ◌++◌, ◌==◌, if◌then◌else◌, Option, Some, None, option_map}
use Rattle.manifest_words.specs.Escape.{backslash, letter, octal}

-- the byte of the three octal digits at the front, and the rest after them
abbrev pub octal_at : List ℕ → Option (ℕ × List ℕ)
octal_at (a ∷ b ∷ c ∷ rest) = option_map (λ n. (n, rest)) (octal a b c)
octal_at (a ∷ b ∷ []) = None
octal_at (a ∷ []) = None
octal_at [] = None

abbrev pub escape_by : Option ℕ → List ℕ → Option (ℕ × List ℕ) → Option (ℕ × List ℕ)
escape_by (Some b) rest digits = Some (b, rest)
escape_by None rest digits = digits

abbrev pub escape_at : List ℕ → Option (ℕ × List ℕ)
escape_at [] = None
escape_at (c ∷ rest) = escape_by (letter c) rest (octal_at (c ∷ rest))

abbrev pub first_byte : List ℕ → Option (ℕ × List ℕ)
first_byte [] = None
first_byte (b ∷ rest) = if b == backslash then escape_at rest else Some (b, rest)

-- the bytes that the word represents were appended, if all of its escapes are good
abbrev pub Decodes : List ℕ → List ℕ → Option (List ℕ) → Bool → Type 0
Decodes old new None good = good ≡ false
Decodes old new (Some text) good = (good ≡ true) × (new ≡ old ++ text)
