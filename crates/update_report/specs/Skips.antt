-- The skipped files: they have library names, but their content isn't a usable shared library.
use Rattle.std.specs.Prelude.{ℕ, Bool, List, Option, Some, None, is_some}
use Rattle.std.specs.Option.{option_and_then}
use Rattle.lib_types.specs.declared.analysis.Analysis.{Analysis}
use Rattle.lib_types.specs.declared.analysis.Analysis.TheVariants.{Lib, Not}
use Rattle.file_table.specs.Analyses.{Analyses}
use Rattle.update_report.specs.declared.kinds.Skipped.{Skipped}

abbrev pub skip_by : List ℕ → Analysis → Option Skipped
skip_by path (Not defect) = Some (record { path = path; defect = defect })
skip_by path (Lib abi soname) = None

-- the skip record of the file at a path, if the file has a defect
abbrev pub skip_at : Analyses → List ℕ → Option Skipped
skip_at what path = option_and_then (skip_by path) (what path)

abbrev pub is_skipped : Analyses → List ℕ → Bool
is_skipped what path = is_some (skip_at what path)
