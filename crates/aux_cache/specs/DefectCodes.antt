-- The two numbers of a record that say a defect: its code, and the number that it has.
use Rattle.std.specs.Prelude.{ℕ, Bool, ◌==◌, ◌&&◌, List, [], ◌∷◌, find, unwrap_or, Option}
use Rattle.lib_types.specs.Defects.{defect_number}
use Rattle.lib_types.specs.Ranges.{is_in_range}
use Rattle.lib_types.specs.declared.analysis.Defect.{Defect}
use Rattle.lib_types.specs.declared.analysis.Defect.TheVariants.{NotElf, TooShort, BadClass, BadData, BadMachine, NotShared, BadPhdrs, NoDynamic, DynOutside, NoStrtab, OutsideLoad, BadString, BadSoname, Unsearchable}

-- The code of each defect of a file. Unsearchable is about a name, so no record has it. A library has the code 0.
abbrev pub defect_code : Defect → ℕ
defect_code NotElf = 1
defect_code (TooShort length) = 2
defect_code (BadClass value) = 3
defect_code (BadData value) = 4
defect_code (BadMachine number) = 5
defect_code (NotShared etype) = 6
defect_code BadPhdrs = 7
defect_code NoDynamic = 8
defect_code DynOutside = 9
defect_code NoStrtab = 10
defect_code OutsideLoad = 11
defect_code (BadString tag) = 12
defect_code BadSoname = 13
defect_code Unsearchable = 0

-- the number of the defect, or 0 if it has none
abbrev pub defect_value : Defect → ℕ
defect_value defect = unwrap_or (defect_number defect) 0

-- each defect of a file; those that have a number have this one
abbrev pub defects_with : ℕ → List Defect
defects_with number =
    NotElf
    ∷ TooShort number
    ∷ BadClass number
    ∷ BadData number
    ∷ BadMachine number
    ∷ NotShared number
    ∷ BadPhdrs
    ∷ NoDynamic
    ∷ DynOutside
    ∷ NoStrtab
    ∷ OutsideLoad
    ∷ BadString number
    ∷ BadSoname
    ∷ []

abbrev pub has_numbers : ℕ → ℕ → Defect → Bool
has_numbers code value defect = defect_code defect == code && defect_value defect == value && is_in_range defect

-- the defect with this code and this number, if its number is in its range
unfoldable pub defect_of : ℕ → ℕ → Option Defect
defect_of code value = find (has_numbers code value) (defects_with value)
