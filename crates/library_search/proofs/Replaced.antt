-- The table after the analyses of the libraries that the loader can't search for were replaced.
use Rattle.std.proofs.Common.{◌≡◌, ◌||◌, ℕ, Bool, true, false, not, cond, List, [], ◌∷◌, Some, refl, ap, sym, subst, ◌∙◌}
use Rattle.std.proofs.lemmas.Bool.{or_left, or_right}
use Rattle.std.proofs.lemmas.Slice.Eq.{bytes_eq-Decides}
use Rattle.std.specs.List.{AllByRecursion, IsDistinct}
use Rattle.std.specs.Map.{keys_of}
use Rattle.std.specs.Str.{bytes_eq}
use Rattle.file_stamps.proofs.KeptAnalyses.{analysis_other, analysis_put}
use Rattle.file_table.specs.Analyses.{Analyses}
use Rattle.file_table.specs.Table.{Rows, analysis_at, with_analysis}
use Rattle.lib_types.proofs.SortedPairs.{by_test}
use Rattle.lib_types.specs.declared.analysis.Analysis.{Analysis}
use Rattle.lib_types.specs.declared.analysis.Analysis.TheVariants.{Lib, Not}
use Rattle.lib_types.specs.declared.analysis.Defect.TheVariants.{Unsearchable}
use Rattle.string_pool.proofs.Members.{is_in}
use Rattle.library_search.specs.Judged.{can_search, judged_all, judged_by}
use Rattle.library_search.specs.Unsearchable.{is_unsearchable, unsearchable}
use Rattle.lib_types.proofs.SameTexts.{itself}

-- ---- one path after another

-- these analyses, with those of these paths replaced
abbrev pub marked : List (List ℕ) → Analyses → Analyses
marked paths what path = cond (is_in paths path) (Some (Not Unsearchable)) (what path)

-- each of these paths is among the paths of the rows
abbrev pub AreRows : List (List ℕ) → List (List ℕ) → Type 0
AreRows keys paths = AllByRecursion (λ path. is_in keys path ≡ true) paths

-- a row that is there keeps its place
pub rows_same : (rows : Rows) (path : List ℕ) (analysis : Analysis) → is_in (keys_of rows) path ≡ true → keys_of (with_analysis rows path analysis) ≡ keys_of rows
rows_same [] path analysis there = absurd (cc)
rows_same (e ∷ rows) path analysis there = by_test (bytes_eq path e.0)
    (λ h. rw h refl)
    (λ h. rw h (ap (λ keys. e.0 ∷ keys) (rows_same rows path analysis (sym (ap (λ b. b || is_in (keys_of rows) path) h) ∙ there))))

pub marks_next : (rows : Rows) (path : List ℕ) (rest : List (List ℕ)) (q : List ℕ) → marked rest (analysis_at (with_analysis rows path (Not Unsearchable))) q ≡ marked (path ∷ rest) (analysis_at rows) q
marks_next rows path rest q = by_test (bytes_eq q path)
    (λ h.
    let same : q ≡ path = (bytes_eq-Decides q path).0 h in
    let put : analysis_at (with_analysis rows path (Not Unsearchable)) q ≡ Some (Not Unsearchable) =
    ap (analysis_at (with_analysis rows path (Not Unsearchable))) same ∙ analysis_put rows path (Not Unsearchable) in
    rw (h, put) (either (is_in rest q)))
    (λ h. rw h (ap (λ o. cond (is_in rest q) (Some (Not Unsearchable)) o) (analysis_other rows path q (Not Unsearchable) h)))
  where
    either : (b : Bool) → cond b (Some (Not Unsearchable)) (Some (Not Unsearchable)) ≡ Some (Not Unsearchable)
    either true = refl
    either false = refl

-- ---- all paths

-- the replaced analysis of a row
judged_row : (path : List ℕ) (analysis : Analysis) → judged_by path analysis ≡ cond (is_unsearchable path analysis) (Not Unsearchable) analysis
judged_row path (Lib abi soname) = by (can_search path soname)
  where
    by : (b : Bool) → cond b (Lib abi soname) (Not Unsearchable) ≡ cond (not b) (Not Unsearchable) (Lib abi soname)
    by true = refl
    by false = refl
judged_row path (Not defect) = refl

-- a path that no row has isn't among the paths of any of the rows
not_there : (rows : Rows) (path : List ℕ) → AllByRecursion (λ key. bytes_eq path key ≡ false) (keys_of rows) → is_in (unsearchable rows) path ≡ false
not_there [] path none = refl
not_there (e ∷ rows) path none = by_test (is_unsearchable e.0 e.1)
    (λ h. rw (h, none.0) (not_there rows path none.1))
    (λ h. rw h (not_there rows path none.1))

there_in : (keys : List (List ℕ)) (rows : Rows) → ((path : List ℕ) → is_in (keys_of rows) path ≡ true → is_in keys path ≡ true) → AreRows keys (unsearchable rows)
there_in keys [] among = tt
there_in keys (e ∷ rows) among =
    let rest = there_in keys rows (λ path there. among path (or_right (bytes_eq path e.0) (is_in (keys_of rows) path) there)) in
    by_test {P = AreRows keys (unsearchable (e ∷ rows))} (is_unsearchable e.0 e.1)
    (λ h. rw h (among e.0 (or_left (bytes_eq e.0 e.0) (is_in (keys_of rows) e.0) (itself e.0)), rest))
    (λ h. rw h rest)

pub all_there : (rows : Rows) → AreRows (keys_of rows) (unsearchable rows)
all_there rows = there_in (keys_of rows) rows (λ path there. there)

module _ (e : List ℕ × Analysis) (rows : Rows) (path : List ℕ) where
  abbrev whole : Rows
  whole = e ∷ rows

  -- the path of the first row
  first_marked : AllByRecursion (λ key. bytes_eq e.0 key ≡ false) (keys_of rows) → bytes_eq path e.0 ≡ true → marked (unsearchable whole) (analysis_at whole) path ≡ Some (judged_by path e.1)
  first_marked differ h =
      let same : path ≡ e.0 = (bytes_eq-Decides path e.0).0 h in
      let others : is_in (unsearchable rows) path ≡ false = not_there rows path (subst (λ (q : List ℕ). AllByRecursion (λ key. bytes_eq q key ≡ false) (keys_of rows)) (sym same) differ) in
      ap (λ o. cond (is_in (unsearchable whole) path) (Some (Not Unsearchable)) o) found
      ∙ by_test (is_unsearchable e.0 e.1)
      (λ u. rw (u, h) refl)
      (λ u. rw (u, others) refl)
      ∙ ap Some (sym (judged_row e.0 e.1))
      ∙ ap (λ q. Some (judged_by q e.1)) (sym same)
    where
      found : analysis_at whole path ≡ Some e.1
      found = rw h refl

  later_marked : bytes_eq path e.0 ≡ false → marked (unsearchable whole) (analysis_at whole) path ≡ marked (unsearchable rows) (analysis_at rows) path
  later_marked h = by_test (is_unsearchable e.0 e.1) (λ u. rw (u, h) refl) (λ u. rw (u, h) refl)

-- all paths together give the judged analyses
pub marks_are : (rows : Rows) → IsDistinct bytes_eq (keys_of rows) → (path : List ℕ) → marked (unsearchable rows) (analysis_at rows) path ≡ judged_all (analysis_at rows) path
unfolding IsDistinct judged_all
marks_are [] distinct path = refl
marks_are (e ∷ rows) distinct path = by_test (bytes_eq path e.0)
    (λ h. first_marked e rows path distinct.0 h ∙ rw h refl)
    (λ h. later_marked e rows path h ∙ marks_are rows distinct.1 path ∙ rw h refl)

pub ruleset judging_laws = (rows_same, marks_next, all_there, marks_are)
