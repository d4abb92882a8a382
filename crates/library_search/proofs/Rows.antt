-- The rows of the table after the files with library names were read.
use Rattle.std.proofs.Common.{◌≡◌, ◌++◌, ◌||◌, ℕ, Bool, true, false, cond, List, [], ◌∷◌, refl, ap, sym, ◌∙◌}
use Rattle.std.proofs.lemmas.Slice.Eq.{bytes_eq-Decides}
use Rattle.std.specs.List.{list_any}
use Rattle.std.specs.Map.{keys_of}
use Rattle.std.specs.Option.{is_some}
use Rattle.std.specs.Str.{bytes_eq}
use Rattle.file_table.proofs.Unread.{none_read}
use Rattle.file_table.specs.Analyses.{Analyses, HaveAnalyses, unread}
use Rattle.file_table.specs.Analyses.{analysed}
use Rattle.file_table.specs.Table.{Rows, analysis_at}

-- if each path has an analysis, no path is left out
all_analysed : (what : Analyses) (paths : List (List ℕ)) → HaveAnalyses what paths → analysed what paths ≡ paths
all_analysed what [] have = refl
all_analysed what (path ∷ paths) have =
    let first : is_some (what path) ≡ true = have path (ap (λ b. b || list_any (bytes_eq path) paths) ((bytes_eq-Decides path path).1 refl)) in
    ap (λ b. cond b (path ∷ analysed what paths) (analysed what paths)) first
    ∙ ap (λ l. path ∷ l) (all_analysed what paths (λ q there. have q (following (bytes_eq q path) (list_any (bytes_eq q) paths) there)))
  where
    following : (a b : Bool) → b ≡ true → (a || b) ≡ true
    following true b h = refl
    following false b h = h

-- if files are read into an empty table and each has an analysis then, they are the rows of the table
pub rows_read : (first rows : Rows) (paths : List (List ℕ)) → first ≡ [] → HaveAnalyses (analysis_at rows) paths → keys_of rows ≡ keys_of first ++ unread (analysis_at first) paths
    → keys_of rows ≡ analysed (analysis_at rows) paths
rows_read first rows paths none have are =
    are
    ∙ ap (λ l. keys_of l ++ unread (analysis_at l) paths) none
    ∙ none_read paths
    ∙ sym (all_analysed (analysis_at rows) paths have)
