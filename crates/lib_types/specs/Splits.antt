-- The parts of a text between its separators.
use Rattle.std.specs.Prelude.{ℕ, ◌+◌, Bool, List, [], length, Option, Some, None}
use Rattle.std.specs.List.{slice_split}
use Rattle.lib_types.specs.Bytes.{is_byte, is_either}
use Rattle.lib_types.specs.Sets.{is_in}
use Rattle.lib_types.specs.declared.parts.Separator.{Separator}
use Rattle.lib_types.specs.declared.parts.Separator.TheVariants.{Blank, Byte, In}

abbrev pub separates : Separator → ℕ → Bool
separates Blank = is_either 32 9
separates (Byte byte) = is_byte byte
separates (In set) = is_in set.now

-- the parts of the remaining bytes; the list is empty if nothing remains
abbrev pub parts_of : (ℕ → Bool) → Option (List ℕ) → List (List ℕ)
parts_of test None = []
parts_of test (Some bytes) = slice_split test bytes

-- a measure of the rest: 0 if there is none
abbrev pub size_of : Option (List ℕ) → ℕ
size_of None = 0
size_of (Some bytes) = 1 + length bytes
