-- JSON values as lines of an output (RFC 8259).
use Rattle.std.specs.Prelude.{◌≡◌, ◌++◌, ◌∷◌, [], ℕ, List, Some}
use Rattle.serde_json.specs.Data.{Data}
use Rattle.serde_json.specs.Read.{read}
use Rattle.serde_json.specs.Written.{compact_text}

-- the value without blanks, and a newline
abbrev pub json_text : Data → List ℕ
json_text d = compact_text d ++ 10 ∷ []

-- who reads the text as JSON gets the value
abbrev pub IsReadBack : Data → Type 0
IsReadBack d = read (compact_text d) ≡ Some d
