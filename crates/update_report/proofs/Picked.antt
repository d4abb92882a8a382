-- Two lists of paths with the same skipped files give the same skip records.
use Rattle.std.proofs.Common.{◌≡◌, ◌∙◌, ◌&&◌, ℕ, Bool, true, false, List, [], ◌∷◌, Option, Some, None, refl, ap, sym, is_some}
use Rattle.std.proofs.lemmas.Bool.{or_left, or_right}
use Rattle.std.proofs.lemmas.List.Kept.{IsStrictlySortedBy-filter}
use Rattle.std.specs.Cmp.Lexicographic.{slice_cmp}
use Rattle.std.specs.List.{filter, filter_map}
use Rattle.std.specs.Map.{keys_of}
use Rattle.std.specs.Ordering.{nat_cmp}
use Rattle.std.specs.Str.{bytes_eq}
use Rattle.lib_types.proofs.SortedPairs.{by_test}
use Rattle.string_pool.proofs.InByteOrder.{ascending_sorted, in_ascending}
use Rattle.string_pool.proofs.Members.{is_in, kept_in, left_out, same_members}
use Rattle.string_pool.specs.Order.{ascending}
use Rattle.file_table.specs.Analyses.{Analyses}
use Rattle.file_table.specs.Table.{Rows, analysis_at}
use Rattle.update_report.specs.Skips.{is_skipped, skip_at}
use Rattle.update_report.specs.declared.kinds.Skipped.{Skipped}

nothing : (found : Option Skipped) → is_some found ≡ false → found ≡ None
nothing None e = cc
nothing (Some found) e = absurd (cc)

both : (keep a b : Bool) → (keep ≡ true → a ≡ b) → (keep && a) ≡ (keep && b)
both true a b h = h refl
both false a b h = refl

pub same_picked : (what : Analyses) (xs ys : List (List ℕ)) → ((z : List ℕ) → is_skipped what z ≡ true → is_in xs z ≡ is_in ys z)
    → filter_map (skip_at what) (ascending xs) ≡ filter_map (skip_at what) (ascending ys)
same_picked what xs ys same =
    let keep = is_skipped what in
    let left : (zs : List (List ℕ)) → filter_map (skip_at what) (filter keep zs) ≡ filter_map (skip_at what) zs = left_out keep (skip_at what) (λ path e. nothing (skip_at what path) e) in
    sym (left (ascending xs))
    ∙ ap (filter_map (skip_at what)) (same_members (filter keep (ascending xs)) (filter keep (ascending ys))
    (IsStrictlySortedBy-filter (slice_cmp nat_cmp) keep (ascending xs) (ascending_sorted xs))
    (IsStrictlySortedBy-filter (slice_cmp nat_cmp) keep (ascending ys) (ascending_sorted ys))
    (λ z.
    kept_in keep z (ascending xs) ∙ both (keep z) (is_in (ascending xs) z) (is_in (ascending ys) z) (λ h. in_ascending xs z ∙ same z h ∙ sym (in_ascending ys z))
    ∙ sym (kept_in keep z (ascending ys))))
    ∙ left (ascending ys)

-- a skipped file's path is in the table
pub in_table : (rows : Rows) (z : List ℕ) → is_skipped (analysis_at rows) z ≡ true → is_in (keys_of rows) z ≡ true
in_table [] z h = absurd (cc)
in_table (e ∷ rows) z h = by_test (bytes_eq z e.0)
    (λ f. or_left (bytes_eq z e.0) (is_in (keys_of rows) z) f)
    (λ f. or_right (bytes_eq z e.0) (is_in (keys_of rows) z) (in_table rows z (rw f at h)))
