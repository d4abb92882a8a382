-- The rows of a table.
use Rattle.std.proofs.Common.{◌≡◌, ℕ, true, nat_eq, List, Some, subst}
use Rattle.std.proofs.lemmas.Map.Entries.{lookup_from_place}
use Rattle.std.specs.Cmp.Lexicographic.{bytes_decides, nat_list_eq_equiv, pointwise}
use Rattle.std.specs.List.{IsDistinct, slice_get}
use Rattle.std.specs.Map.{keys_of, lookup}
use Rattle.std.specs.Str.{bytes_eq}
use Rattle.lib_types.specs.declared.analysis.Analysis.{Analysis}
use Rattle.file_table.specs.Table.{Rows, analysis_at}

-- a row with this path has the ELF information of the path
pub row_found : (rows : Rows) (row : ℕ) (path key : List ℕ) (analysis : Analysis) → IsDistinct bytes_eq (keys_of rows) → slice_get rows row ≡ Some (key, analysis) → pointwise nat_eq key path ≡ true
    → analysis_at rows path ≡ Some analysis
row_found rows row path key analysis distinct there same =
    subst (λ k. lookup (bytes_eq k) rows ≡ Some analysis) ((bytes_decides key path).0 same) (lookup_from_place nat_list_eq_equiv rows row key analysis distinct there)
