-- What a file is for the cache: a library, or its first defect. The rules are those of the object, with two more. NoDynamic comes
-- after the rules of the header. The last rule rejects a program at fixed addresses.
use Rattle.std.specs.Prelude.{◌≡◌, ℕ, if◌then◌else◌, ◌==◌, List, [], ◌∷◌, ◌++◌, Option, Some, None, is_none, IfSome, true}
use Rattle.std.specs.Option.{option_map_or}
use Rattle.lib_types.specs.declared.abi.Abi.{Abi}
use Rattle.elf_dynamic.specs.declared.kinds.Dynamic.{Dynamic}
use Rattle.lib_types.specs.Name.{is_name}
use Rattle.lib_types.specs.declared.analysis.Analysis.{Analysis}
use Rattle.lib_types.specs.declared.analysis.Analysis.TheVariants.{Lib, Not}
use Rattle.lib_types.specs.declared.analysis.Defect.{Defect}
use Rattle.lib_types.specs.declared.analysis.Defect.TheVariants.{BadMachine, NotShared, NoDynamic}
use Rattle.elf_headers.specs.Layout.{is_wide, word_size, etype, machine}
use Rattle.elf_headers.specs.Header.{Sentence, first_defect, header_sentences, abi}
use Rattle.lib_types.specs.Ranges.{IsInRange}
use Rattle.elf_dynamic.specs.Section.{dynamic_segment}
use Rattle.elf_dynamic.specs.Object.{entries, table, soname_of, dynamic_sentences}

abbrev pub sentences_of : ℕ → List ℕ → List Sentence
sentences_of w bytes =
    header_sentences bytes
    ++ (is_none (dynamic_segment w bytes), NoDynamic) ∷ []
    ++ dynamic_sentences w bytes
    ++ (etype bytes == 2, NotShared (etype bytes)) ∷ []

abbrev pub sentences : List ℕ → List Sentence
sentences bytes = sentences_of (word_size (is_wide bytes)) bytes

-- the defect of the first rule that applies
abbrev pub defect : List ℕ → Option Defect
defect bytes = first_defect (sentences bytes)

abbrev pub as_library : ℕ → List ℕ → Analysis
as_library w bytes =
    option_map_or (λ abi. Lib abi (soname_of (table w bytes) (entries w bytes))) (abi bytes) (Not (BadMachine (machine bytes)))

abbrev pub analysis_by : Option Defect → List ℕ → Analysis
analysis_by (Some d) bytes = Not d
analysis_by None bytes = as_library (word_size (is_wide bytes)) bytes

unfoldable pub analysis : List ℕ → Analysis
analysis bytes = analysis_by (defect bytes) bytes

-- the analysis of an object
abbrev pub library_of : Abi → ℕ → Option Dynamic → Analysis
library_of abi type None = Not NoDynamic
library_of abi type (Some d) = if type == 2 then Not (NotShared type) else Lib abi d.soname

-- a returned soname is a name
abbrev pub HasName : Analysis → Type 0
HasName (Lib abi soname) = IfSome soname (λ name. is_name name ≡ true)
HasName (Not d) = Unit {0}

-- the number in a returned defect is in its range
abbrev pub IsDefectInRange : Analysis → Type 0
IsDefectInRange (Lib abi soname) = Unit {0}
IsDefectInRange (Not d) = IsInRange d
