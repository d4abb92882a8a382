-- Libraries whose names and sonames are parts of one text.
use Rattle.std.specs.Prelude.{ℕ, List}
use Rattle.std.specs.List.{AllByRecursion}
use Rattle.place_libraries.specs.Library.{Library}
use Rattle.lib_types.specs.Part.{part_of, IsWithin}
use Rattle.place_libraries.specs.declared.best.Row.{Row}

abbrev pub library_in : List ℕ → Row → Library
library_in text row = record { name = part_of text row.name; soname = part_of text row.soname; abi = row.abi }

-- the parts of the row are within a text of `count` bytes
abbrev pub IsRowWithin : ℕ → Row → Type 0
IsRowWithin count row = IsWithin count row.name × IsWithin count row.soname

abbrev pub AreWithin : ℕ → List Row → Type 0
AreWithin count rows = AllByRecursion (IsRowWithin count) rows
