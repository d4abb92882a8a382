-- Inserting the defects of a table's rows in path order gives the same list as reading the table at the sorted paths.
use Rattle.std.proofs.Common.{◌≡◌, ◌∙◌, ℕ, true, false, List, [], ◌∷◌, Option, Some, None, map, refl, ap, sym, subst, Ordering}
use Rattle.std.proofs.lemmas.Cmp.{nat_list_cmp_total}
use Rattle.std.proofs.lemmas.Map.Keys.{sorted_head, sorted_tail}
use Rattle.std.proofs.lemmas.Slice.Eq.{bytes_eq-Decides}
use Rattle.std.specs.BTreeMap.{insert_entry}
use Rattle.std.specs.List.{AllByRecursion, IsDistinct, cons_option, filter_map, fold}
use Rattle.std.specs.List.Sorted.{IsStrictlySortedBy}
use Rattle.std.specs.Map.{keys_of}
use Rattle.std.specs.Option.{option_and_then, option_map}
use Rattle.std.specs.Ordering.{match_ordering}
use Rattle.std.specs.Str.{bytes_eq}
use Rattle.std.specs.declared.cmp.Ordering.TheVariants.{Less, Equal, Greater}
use Rattle.lib_types.proofs.SortedPairs.{by_ordering, by_test, sorted_put}
use Rattle.lib_types.specs.declared.analysis.Analysis.{Analysis}
use Rattle.lib_types.specs.declared.analysis.Analysis.TheVariants.{Lib, Not}
use Rattle.lib_types.specs.declared.analysis.Defect.{Defect}
use Rattle.string_pool.proofs.InByteOrder.{same_text}
use Rattle.string_pool.proofs.Members.{AreSorted, cmp}
use Rattle.string_pool.proofs.Ordered.{all_below, keys_put}
use Rattle.file_table.specs.Analyses.{Analyses}
use Rattle.string_pool.specs.Order.{ascending, with_text}
use Rattle.file_table.specs.Table.{Rows, analysis_at}
use Rattle.update_report.specs.ByPath.{Defects, skip_of, with_row}
use Rattle.update_report.specs.Skips.{skip_at}
use Rattle.lib_types.proofs.SameTexts.{itself}

abbrev defect_of : Analysis → Option Defect
defect_of (Not defect) = Some defect
defect_of (Lib abi soname) = None

-- ---- the defects at sorted paths

module _ (defect_at : List ℕ → Option Defect) where
  abbrev paired : List ℕ → Option Defect → Option (List ℕ × Defect)
  paired path found = option_map (λ defect. (path, defect)) found

  abbrev picked : List (List ℕ) → Defects
  picked paths = filter_map (λ path. paired path (defect_at path)) paths

  one : (path : List ℕ) (found : Option Defect) (paths : List (List ℕ)) → defect_at path ≡ found → picked (path ∷ paths) ≡ cons_option (paired path found) (picked paths)
  one path found paths e = ap (λ o. cons_option (paired path o) (picked paths)) e

  text_put : (k x : List ℕ) (ks : List (List ℕ)) (r : Ordering) → cmp k x ≡ r → with_text (x ∷ ks) k ≡ match_ordering r (k ∷ x ∷ ks) (x ∷ ks) (x ∷ with_text ks k)
  text_put k x ks r h = ap (λ o. match_ordering o (k ∷ x ∷ ks) (x ∷ ks) (x ∷ with_text ks k)) h

  row_put : (k x : List ℕ) (d e : Defect) (es : Defects) (r : Ordering) → cmp k x ≡ r
      → insert_entry cmp ((x, e) ∷ es) k d ≡ match_ordering r ((k, d) ∷ (x, e) ∷ es) ((x, d) ∷ es) ((x, e) ∷ insert_entry cmp es k d)
  row_put k x d e es r h = ap (λ o. match_ordering o ((k, d) ∷ (x, e) ∷ es) ((x, d) ∷ es) ((x, e) ∷ insert_entry cmp es k d)) h

  -- a path below all others is inserted at the front
  first_put : (k : List ℕ) (d : Defect) (ks : List (List ℕ)) → AllByRecursion (λ y. cmp k y ≡ Less) ks → insert_entry cmp (picked ks) k d ≡ (k, d) ∷ picked ks
  first_put k d [] a = refl
  first_put k d (x ∷ ks) a =
      elim (defect_at x) as (λ o. insert_entry cmp (cons_option (paired x o) (picked ks)) k d ≡ (k, d) ∷ cons_option (paired x o) (picked ks))
      [ None ↦ first_put k d ks a.1 | Some e ↦ row_put k x d e (picked ks) Less a.0 ]

  -- the file at the path has a defect
  pub defect_put : (k : List ℕ) (d : Defect) (ks : List (List ℕ)) → defect_at k ≡ Some d → AreSorted ks → insert_entry cmp (picked ks) k d ≡ picked (with_text ks k)
  defect_put k d [] e s = sym (one k (Some d) [] e)
  defect_put k d (x ∷ ks) e s = by_ordering (cmp k x)
      (λ a.
      first_put k d (x ∷ ks) (a, all_below nat_list_cmp_total k x ks a (sorted_head cmp x ks s)) ∙ sym (one k (Some d) (x ∷ ks) e) ∙ ap picked (sym (text_put k x ks Less a)))
      (λ a.
      let here : defect_at x ≡ Some d = subst (λ (q : List ℕ). defect_at q ≡ Some d) (same_text k x a) e in
      ap (λ es. insert_entry cmp es k d) (one x (Some d) ks here) ∙ row_put k x d d (picked ks) Equal a ∙ sym (one x (Some d) ks here) ∙ ap picked (sym (text_put k x ks Equal a)))
      (λ a.
      let rest = defect_put k d ks e (sorted_tail cmp x ks s) in
      let following : insert_entry cmp (picked (x ∷ ks)) k d ≡ picked (x ∷ with_text ks k) =
      elim (defect_at x) as (λ o. insert_entry cmp (cons_option (paired x o) (picked ks)) k d ≡ cons_option (paired x o) (picked (with_text ks k)))
      [ None ↦ rest | Some e ↦ row_put k x d e (picked ks) Greater a ∙ ap (λ es. (x, e) ∷ es) rest ] in
      following ∙ ap picked (sym (text_put k x ks Greater a)))

  -- the file at the path has no defect
  pub none_put : (k : List ℕ) (ks : List (List ℕ)) → defect_at k ≡ None → picked ks ≡ picked (with_text ks k)
  none_put k [] e = sym (one k None [] e)
  none_put k (x ∷ ks) e = by_ordering (cmp k x)
      (λ a. sym (one k None (x ∷ ks) e) ∙ ap picked (sym (text_put k x ks Less a)))
      (λ a. ap picked (sym (text_put k x ks Equal a)))
      (λ a. ap (cons_option (paired x (defect_at x))) (none_put k ks e) ∙ ap picked (sym (text_put k x ks Greater a)))

-- ---- all rows

-- looking up the path of each row finds this row
abbrev AreFound : Analyses → Rows → Type 0
AreFound what rows = AllByRecursion (λ row. what row.0 ≡ Some row.1) rows

module _ (what : Analyses) where
  abbrev defect_at : List ℕ → Option Defect
  defect_at path = option_and_then defect_of (what path)

  row_put_in : (path : List ℕ) (analysis : Analysis) (paths : List (List ℕ)) → what path ≡ Some analysis → AreSorted paths
      → with_row (picked defect_at paths) (path, analysis) ≡ picked defect_at (with_text paths path)
  row_put_in path (Not defect) paths e s = defect_put defect_at path defect paths (ap (option_and_then defect_of) e) s
  row_put_in path (Lib abi soname) paths e s = none_put defect_at path paths (ap (option_and_then defect_of) e)

  -- the defects of the rows so far are those at the paths so far
  rows_put : (rows so_far : Rows) → AreSorted (keys_of so_far) → AreFound what rows
      → fold with_row (picked defect_at (keys_of so_far)) rows ≡ picked defect_at (fold with_text (keys_of so_far) (keys_of rows))
  rows_put [] so_far s are = refl
  rows_put (row ∷ rows) so_far s are =
      let more : Rows = insert_entry cmp so_far row.0 row.1 in
      let paths : keys_of more ≡ with_text (keys_of so_far) row.0 = keys_put cmp so_far row.0 row.1 in
      ap (λ found. fold with_row found rows) (row_put_in row.0 row.1 (keys_of so_far) are.0 s ∙ ap (picked defect_at) (sym paths))
      ∙ rows_put rows more (sorted_put nat_list_cmp_total row.0 so_far row.1 s) are.1
      ∙ ap (λ ks. picked defect_at (fold with_text ks (keys_of rows))) paths

  one_skip : (path : List ℕ) → skip_at what path ≡ option_map skip_of (paired defect_at path (defect_at path))
  one_skip path = elim (what path) as (λ o. option_and_then (λ a. skip_at (λ p. Some a) path) o ≡ option_map skip_of (option_map (λ defect. (path, defect)) (option_and_then defect_of o)))
      [ None ↦ refl | Some a ↦ elim a as (λ a. skip_at (λ p. Some a) path ≡ option_map skip_of (option_map (λ defect. (path, defect)) (defect_of a))) [ Not d ↦ refl | Lib abi soname ↦ refl ] ]

  skips_picked : (paths : List (List ℕ)) → map skip_of (picked defect_at paths) ≡ filter_map (skip_at what) paths
  skips_picked [] = refl
  skips_picked (path ∷ paths) =
      elim (defect_at path) as (λ o. map skip_of (cons_option (paired defect_at path o) (picked defect_at paths)) ≡ cons_option (option_map skip_of (paired defect_at path o)) (filter_map (skip_at what) paths))
      [ None ↦ skips_picked paths | Some d ↦ ap (λ skips. skip_of (path, d) ∷ skips) (skips_picked paths) ]
      ∙ ap (λ o. cons_option o (filter_map (skip_at what) paths)) (sym (one_skip path))

-- ---- rows of distinct paths

-- a row in front with another path changes no lookup
found_after : (path : List ℕ) (analysis : Analysis) (rows some : Rows) → AllByRecursion (λ y. bytes_eq path y ≡ false) (keys_of some) → AreFound (analysis_at rows) some
    → AreFound (analysis_at ((path, analysis) ∷ rows)) some
found_after path analysis rows [] others are = tt
found_after path analysis rows (row ∷ some) others are =
    let differs : bytes_eq row.0 path ≡ false = by_test (bytes_eq row.0 path)
    (λ e.
    let there : bytes_eq path row.0 ≡ true = (bytes_eq-Decides path row.0).1 (sym ((bytes_eq-Decides row.0 path).0 e)) in
    let z : true ≡ false = sym there ∙ others.0 in absurd (cc))
    (λ e. e) in
    (rw differs are.0, found_after path analysis rows some others.1 are.1)

all_found : (rows : Rows) → IsDistinct bytes_eq (keys_of rows) → AreFound (analysis_at rows) rows
unfolding IsDistinct
all_found [] distinct = tt
all_found ((path, analysis) ∷ rows) distinct = (rw (itself path) refl, found_after path analysis rows rows distinct.0 (all_found rows distinct.1))

pub all_in_order : (rows : Rows) → IsDistinct bytes_eq (keys_of rows) → map skip_of (fold with_row [] rows) ≡ filter_map (skip_at (analysis_at rows)) (ascending (keys_of rows))
unfolding ascending IsStrictlySortedBy
all_in_order rows distinct =
    ap (map skip_of) (rows_put (analysis_at rows) rows [] tt (all_found rows distinct)) ∙ skips_picked (analysis_at rows) (fold with_text [] (keys_of rows))
