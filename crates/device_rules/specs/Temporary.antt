-- The names of temporary files. They show a later run which process made them.
use Rattle.std.specs.Prelude.{◌≡◌, ◌==◌, ◌&&◌, ◌<◌, ℕ, Bool, true, not, List, length, ◌++◌, codes}
use Rattle.std.specs.Char.{is_ascii_digit}
use Rattle.std.specs.List.{after_first, before_first, list_all, position_or_len}
use Rattle.lib_types.specs.Bytes.{is_byte}

-- a decimal number: digits, at least one
abbrev pub is_number : List ℕ → Bool
is_number text = not (length text == 0) && list_all is_ascii_digit text

-- these are the parts of a text before and after its first dot
abbrev pub AreAtDot : List ℕ → List ℕ → List ℕ → Type 0
AreAtDot text front rest = (front ≡ before_first (is_byte 46) text) × (rest ≡ after_first (is_byte 46) text) × (position_or_len (is_byte 46) text < length text)

-- after the name of the slot's file follow `.tmp`, the tag, the process number and the run's random number, with dots between the numbers
abbrev pub temporary_name : List ℕ → List ℕ → List ℕ → List ℕ → List ℕ
temporary_name file tag process random = file ++ (codes ".tmp" ++ (tag ++ (codes "." ++ (process ++ (codes "." ++ random)))))

-- this process made a temporary file of this name for the slot's file
pub record IsMadeBy (file process name : List ℕ) : Type 0 where
  pub tag : List ℕ
  pub random : List ℕ
  pub is : name ≡ temporary_name file tag process random
  pub numbers : is_number tag && is_number process && is_number random ≡ true
