-- Facts about the result of `object`.
use Rattle.std.specs.Prelude.{◌≡◌, true, Result, Ok, Err, IfSome}
use Rattle.lib_types.specs.Name.{is_name}
use Rattle.lib_types.specs.declared.analysis.Defect.{Defect}
use Rattle.lib_types.specs.declared.analysis.Defect.TheVariants.{BadString}
use Rattle.tree_face.specs.StoreUse.{Ending, Complete, DeviceFailed, GaveUp}
use Rattle.lib_types.specs.Ranges.{IsTextTag}
use Rattle.elf_dynamic.specs.declared.kinds.Dynamic.{Dynamic}
use Rattle.elf_dynamic.specs.declared.kinds.Object.{Object}
use Rattle.elf_headers.specs.declared.fault.HeadFault.{HeadFault}
use Rattle.elf_headers.specs.declared.fault.HeadFault.TheVariants as head_faults
use Rattle.elf_dynamic.specs.declared.fault.AnalyseFault.{AnalyseFault}
use Rattle.elf_dynamic.specs.declared.fault.AnalyseFault.TheVariants as reading_faults
use Rattle.elf_dynamic.specs.declared.fault.ObjectFault.{ObjectFault}
use Rattle.elf_dynamic.specs.declared.fault.ObjectFault.TheVariants.{Bad, StoreFault, NoMemory}

-- a fact about the returned defect
abbrev pub IfBad : {X : Type 0} → Result X ObjectFault → (Defect → Type 0) → Type 0
IfBad (Ok x) P = Unit {0}
IfBad (Err (Bad d)) P = P d
IfBad (Err StoreFault) P = Unit {0}
IfBad (Err NoMemory) P = Unit {0}

-- ---- How a call ends. If the file has a defect, the reads still succeeded.

abbrev pub object_ending : {X : Type 0} → Result X ObjectFault → Ending
object_ending (Ok x) = Complete
object_ending (Err (Bad d)) = Complete
object_ending (Err StoreFault) = DeviceFailed
object_ending (Err NoMemory) = GaveUp

abbrev pub analyse_ending : {X : Type 0} → Result X AnalyseFault → Ending
analyse_ending (Ok x) = Complete
analyse_ending (Err reading_faults.StoreFault) = DeviceFailed
analyse_ending (Err reading_faults.NoMemory) = GaveUp

-- ---- names

-- the soname is a name
abbrev pub HasSoname : Dynamic → Type 0
HasSoname d = IfSome d.soname (λ name. is_name name ≡ true)

abbrev pub HasName : Object → Type 0
HasName o = IfSome o.dynamic HasSoname

-- ---- faults

-- the fault of reading the header, as a fault of the object
abbrev pub of_head : HeadFault → ObjectFault
of_head (head_faults.Bad d) = Bad d
of_head head_faults.StoreFault = StoreFault

-- the fault of reading the file, as a fault of the object
abbrev pub of_reading : AnalyseFault → ObjectFault
of_reading reading_faults.StoreFault = StoreFault
of_reading reading_faults.NoMemory = NoMemory

-- the defect is BadString, with a tag whose entries have texts
abbrev pub IsBadString : Defect → Type 0
IsBadString (BadString tag) = IsTextTag tag
IsBadString d = ⊥
