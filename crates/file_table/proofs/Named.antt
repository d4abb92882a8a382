-- The sonames in a table are valid names.
use Rattle.std.proofs.Common.{◌≡◌, ℕ, true, cond, List, [], ◌∷◌, refl, ap, sym, subst, ◌∙◌, Some}
use Rattle.std.proofs.lemmas.Bool.{and_from, and_parts}
use Rattle.std.specs.Map.{lookup}
use Rattle.std.specs.Str.{bytes_eq}
use Rattle.lib_types.proofs.SortedPairs.{by_test}
use Rattle.lib_types.specs.declared.analysis.Analysis.{Analysis}
use Rattle.file_table.specs.Analyses.{HaveNames, has_name}
use Rattle.file_table.specs.Table.{Rows, analysis_at, have_names, with_analysis}

pub still_named : (rows : Rows) (path : List ℕ) (analysis : Analysis) → have_names rows ≡ true → has_name analysis ≡ true → have_names (with_analysis rows path analysis) ≡ true
still_named [] path analysis all h = and_from _ _ h refl
still_named (e ∷ rows) path analysis all h = by_test (bytes_eq path e.0)
    (λ here. rw here (and_from _ _ h (and_parts _ _ all).1))
    (λ other. rw other (and_from _ _ (and_parts _ _ all).0 (still_named rows path analysis (and_parts _ _ all).1 h)))

pub names_of_rows : (rows : Rows) → have_names rows ≡ true → HaveNames (analysis_at rows)
names_of_rows [] all path analysis e = absurd (cc)
names_of_rows (first ∷ rows) all path analysis e = by_test (bytes_eq path first.0)
    (λ here.
    let found : Some first.1 ≡ Some analysis = sym (ap (λ b. cond b (Some first.1) (lookup (bytes_eq path) rows)) here) ∙ e in
    let same : first.1 ≡ analysis = cc in subst (λ (a : Analysis). has_name a ≡ true) same (and_parts _ _ all).0)
    (λ other. names_of_rows rows (and_parts _ _ all).1 path analysis (sym (ap (λ b. cond b (Some first.1) (lookup (bytes_eq path) rows)) other) ∙ e))
