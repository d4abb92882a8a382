-- The skipped files depend only on the analyses of the given paths.
use Rattle.std.proofs.Common.{◌≡◌, ℕ, List, [], ◌∷◌, refl, ap, ◌∙◌}
use Rattle.std.proofs.lemmas.Bool.{or_left, or_right}
use Rattle.std.specs.List.{cons_option, filter_map}
use Rattle.std.specs.Option.{option_and_then}
use Rattle.std.specs.Str.{bytes_eq}
use Rattle.string_pool.proofs.Members.{is_in}
use Rattle.file_table.specs.Analyses.{Analyses, AgreeOn}
use Rattle.update_report.specs.Skips.{skip_at, skip_by}
use Rattle.lib_types.proofs.SameTexts.{itself}

-- analyses that agree on the paths give the same skipped files
pub skips_agree : (what new : Analyses) (paths : List (List ℕ)) → AgreeOn paths what new → filter_map (skip_at new) paths ≡ filter_map (skip_at what) paths
skips_agree what new [] same = refl
skips_agree what new (path ∷ paths) same =
    let here : skip_at new path ≡ skip_at what path = ap (option_and_then (skip_by path)) (same path (or_left (bytes_eq path path) (is_in paths path) (itself path))) in
    let rest = skips_agree what new paths (λ q h. same q (or_right (bytes_eq q path) (is_in paths q) h)) in
    ap (λ o. cons_option o (filter_map (skip_at new) paths)) here ∙ ap (cons_option (skip_at what path)) rest
