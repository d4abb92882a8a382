-- The text of each defect: its name, and its number if it has one.
use Rattle.std.specs.Prelude.{ℕ, List, [], ◌++◌, codes, Option, Some, None}
use Rattle.std.specs.Fmt.{decimal}
use Rattle.lib_types.specs.declared.analysis.Defect.{Defect}
use Rattle.lib_types.specs.declared.analysis.Defect.TheVariants.{NotElf, TooShort, BadClass, BadData, BadMachine, NotShared, BadPhdrs, NoDynamic, DynOutside, NoStrtab, OutsideLoad, BadString, BadSoname, Unsearchable}

abbrev pub defect_name : Defect → List ℕ
defect_name NotElf = codes "NotElf"
defect_name (TooShort length) = codes "TooShort"
defect_name (BadClass value) = codes "BadClass"
defect_name (BadData value) = codes "BadData"
defect_name (BadMachine number) = codes "BadMachine"
defect_name (NotShared etype) = codes "NotShared"
defect_name BadPhdrs = codes "BadPhdrs"
defect_name NoDynamic = codes "NoDynamic"
defect_name DynOutside = codes "DynOutside"
defect_name NoStrtab = codes "NoStrtab"
defect_name OutsideLoad = codes "OutsideLoad"
defect_name (BadString tag) = codes "BadString"
defect_name BadSoname = codes "BadSoname"
defect_name Unsearchable = codes "Unsearchable"

abbrev pub defect_number : Defect → Option ℕ
defect_number (TooShort length) = Some length
defect_number (BadClass value) = Some value
defect_number (BadData value) = Some value
defect_number (BadMachine number) = Some number
defect_number (NotShared etype) = Some etype
defect_number (BadString tag) = Some tag
defect_number _ = None

abbrev pub number_text : Option ℕ → List ℕ
number_text None = []
number_text (Some number) = codes " " ++ decimal number

-- the name, followed by a space and the number if there is one
abbrev pub defect_text : Defect → List ℕ
defect_text defect = defect_name defect ++ number_text (defect_number defect)
