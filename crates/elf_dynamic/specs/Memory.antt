-- What the content may have, if a call runs out of memory. Only texts take memory, so what comes before them is found without it.
use Rattle.std.specs.Prelude.{◌≡◌, ℕ, List, Option, IsSome, Result, Err, MatchResult, IfErr, IsErrOf}
use Rattle.tree_face.specs.Store.{StoreState}
use Rattle.lib_types.specs.Ranges.{IsInRange}
use Rattle.elf_headers.specs.Reading.{OfKnown}
use Rattle.elf_dynamic.specs.Faults.{IfBad}
use Rattle.elf_dynamic.specs.declared.fault.ObjectFault.{ObjectFault}
use Rattle.elf_dynamic.specs.declared.fault.ObjectFault.TheVariants.{NoMemory}
use Rattle.lib_types.specs.declared.analysis.Analysis.{Analysis}
use Rattle.lib_types.specs.declared.analysis.Analysis.TheVariants.{Lib, Not}
use Rattle.lib_types.specs.declared.analysis.Defect.{Defect}
use Rattle.lib_types.specs.declared.analysis.Defect.TheVariants.{BadString, BadSoname, NotShared}
use Rattle.elf_dynamic.specs.declared.kinds.Dynamic.{Dynamic}
use Rattle.elf_dynamic.specs.declared.kinds.Object.{Object}

-- a defect that is tested after the texts: of a text, or that the file is a program at fixed addresses
abbrev pub IsAfterTexts : Defect → Type 0
IsAfterTexts (BadString tag) = Unit {0}
IsAfterTexts BadSoname = Unit {0}
IsAfterTexts (NotShared type) = type ≡ 2
IsAfterTexts d = ⊥

-- Memory may be allocated before this is found: a section, an object with one, a library, or such a defect.
abbrev pub SectionTakesMemory : Result (Option Dynamic) Defect → Type 0
SectionTakesMemory r = MatchResult r IsSome IsAfterTexts

abbrev pub ObjectTakesMemory : Result Object Defect → Type 0
ObjectTakesMemory r = MatchResult r (λ o. IsSome o.dynamic) IsAfterTexts

abbrev pub AnalysisTakesMemory : Analysis → Type 0
AnalysisTakesMemory (Lib abi soname) = Unit {0}
AnalysisTakesMemory (Not d) = IsAfterTexts d

-- A call that reads a section fails with the defect of the content, which is in its range.
-- Out of memory can hide only what is tested after the texts.
pub record IsFaultOf {X : Type 0} (s : StoreState) (section : List ℕ → Result Dynamic Defect) (result : Result X ObjectFault) : Type 0 where
  pub bad : IfBad result (λ d. OfKnown s (λ bytes. section bytes ≡ Err d))
  pub range : IfBad result IsInRange
  pub no_memory : IsErrOf result NoMemory → OfKnown s (λ bytes. IfErr (section bytes) IsAfterTexts)
