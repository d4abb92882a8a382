-- The storage of a text and the bytes in it.
use Rattle.std.specs.Prelude.{ℕ, List, ◌≤◌, take}
use Rattle.std.specs.Bool.{⊤}
use Rattle.lib_types.specs.declared.text.Storage.{Storage}
use Rattle.lib_types.specs.declared.text.Storage.TheVariants.{Here, Differ, Shared}
use Rattle.lib_types.specs.declared.text.TheConstants.{SHORT_MAX}

abbrev pub bytes_in : Storage → List ℕ
bytes_in (Here len bytes) = take len bytes
bytes_in (Differ bytes) = bytes.items
bytes_in (Shared bytes) = bytes.value.items

-- the length is at most the room of the storage
abbrev pub IsFilled : Storage → Type 0
IsFilled (Here len bytes) = len ≤ SHORT_MAX
IsFilled (Differ bytes) = ⊤
IsFilled (Shared bytes) = ⊤
