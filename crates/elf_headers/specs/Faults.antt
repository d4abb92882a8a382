-- Facts about the result of `head`.
use Rattle.std.specs.Prelude.{Result, Ok, Err}
use Rattle.lib_types.specs.declared.analysis.Defect.{Defect}
use Rattle.tree_face.specs.StoreUse.{Ending, Complete, DeviceFailed}
use Rattle.elf_headers.specs.declared.kinds.Head.{Head}
use Rattle.elf_headers.specs.declared.fault.HeadFault.{HeadFault}
use Rattle.elf_headers.specs.declared.fault.HeadFault.TheVariants.{Bad, StoreFault}

-- a fact about the returned defect
abbrev pub IfBad : Result Head HeadFault → (Defect → Type 0) → Type 0
IfBad (Ok h) P = Unit {0}
IfBad (Err (Bad d)) P = P d
IfBad (Err StoreFault) P = Unit {0}

-- How `head` ends. If the header is malformed, the reads still succeeded.
abbrev pub head_ending : Result Head HeadFault → Ending
head_ending (Ok h) = Complete
head_ending (Err (Bad d)) = Complete
head_ending (Err StoreFault) = DeviceFailed
