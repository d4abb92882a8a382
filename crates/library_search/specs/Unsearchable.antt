-- The rows of a table whose libraries the loader can't search for, for the contracts of private functions.
use Rattle.std.specs.Prelude.{ℕ, Bool, false, List, not, filter, map}
use Rattle.file_table.specs.Table.{Rows}
use Rattle.lib_types.specs.declared.analysis.Analysis.{Analysis}
use Rattle.lib_types.specs.declared.analysis.Analysis.TheVariants.{Lib, Not}
use Rattle.library_search.specs.Judged.{can_search}

abbrev pub is_unsearchable : List ℕ → Analysis → Bool
is_unsearchable path (Lib abi soname) = not (can_search path soname)
is_unsearchable path (Not defect) = false

-- the paths of these rows
abbrev pub unsearchable : Rows → List (List ℕ)
unsearchable rows = map (λ row. row.0) (filter (λ row. is_unsearchable row.0 row.1) rows)
