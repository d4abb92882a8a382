-- The lines on the error output after a command has ended.
use Rattle.std.specs.Prelude.{◌≡◌, ◌<◌, ℕ, Bool, true, false, Option, Some}
use Rattle.command_status.specs.declared.status.Status.{Status}
use Rattle.command_status.specs.declared.status.Status.TheVariants.{NoManifest, NoCache, BadCache, BadLayer, NoProgram, BadProgram, Missing, NoMemory}

-- both caches have an entry count, and the new one is lower
pub record IsFewer (before now : Option ℕ) (old new : ℕ) : Type 0 where
  pub had : before ≡ Some old
  pub has : now ≡ Some new
  pub fewer : new < old

-- the error output says what to do after a command that ends with this status
abbrev pub has_advice : Status → Bool
has_advice NoManifest = true
has_advice NoCache = true
has_advice (BadCache defect) = true
has_advice (BadLayer layer kind) = true
has_advice NoMemory = true
has_advice _ = false

-- a list that ends with this status isn't whole
abbrev pub is_part : Status → Bool
is_part Missing = true
is_part NoProgram = true
is_part (BadProgram defect) = true
is_part _ = false
