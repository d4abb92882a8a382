-- What private functions compute: the skipped files of a table, ordered by path.
use Rattle.std.specs.Prelude.{ℕ, List}
use Rattle.std.specs.BTreeMap.{insert_entry}
use Rattle.std.specs.Cmp.Lexicographic.{slice_cmp}
use Rattle.std.specs.Ordering.{nat_cmp}
use Rattle.lib_types.specs.declared.analysis.Analysis.{Analysis}
use Rattle.lib_types.specs.declared.analysis.Analysis.TheVariants.{Lib, Not}
use Rattle.lib_types.specs.declared.analysis.Defect.{Defect}
use Rattle.update_report.specs.declared.kinds.Skipped.{Skipped}

-- paths in byte order, each with the defect of the file there
abbrev pub Defects : Type 0
Defects = List (List ℕ × Defect)

-- adds the defect of a row's file, if it has one
abbrev pub with_row : Defects → List ℕ × Analysis → Defects
with_row found (path, Not defect) = insert_entry (slice_cmp nat_cmp) found path defect
with_row found (path, Lib abi soname) = found

abbrev pub skip_of : List ℕ × Defect → Skipped
skip_of row = record { path = row.0; defect = row.1 }
