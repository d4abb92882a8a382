-- Reading files keeps the existing analyses, adds right ones, and leaves no file unread.
use Rattle.std.proofs.Common.{◌≡◌, ◌||◌, ℕ, true, false, cond, List, [], ◌∷◌, refl, ap, sym, subst, ◌∙◌, Option, Some, None}
use Rattle.std.proofs.lemmas.Slice.Eq.{bytes_eq-Decides}
use Rattle.std.proofs.lemmas.Cmp.{tied_itself}
use Rattle.std.specs.Cmp.Lexicographic.{nat_list_cmp_total, slice_cmp}
use Rattle.std.specs.declared.cmp.Ordering.TheVariants.{Less, Equal}
use Rattle.std.specs.List.{AllByRecursion}
use Rattle.std.specs.List.Sorted.{IsStrictlySortedBy}
use Rattle.std.specs.Option.{is_none, is_some}
use Rattle.std.specs.Ordering.{nat_cmp}
use Rattle.std.specs.Str.{bytes_eq}
use Rattle.lib_types.proofs.SortedPairs.{by_test}
use Rattle.lib_types.specs.declared.analysis.Analysis.{Analysis}
use Rattle.image_tree.specs.Tree.{Nodes, node_at}
use Rattle.file_table.specs.Analyses.{Analyses, KeepsAnalyses, unread}
use Rattle.library_files.specs.FoundFile.{FoundFile, IsFileOf}
use Rattle.file_table.specs.Table.{Rows, analysis_at, with_analysis}
use Rattle.file_stamps.specs.Files.{unread_key}
use Rattle.elf_dynamic.specs.Begun.{key_in}
use Rattle.file_stamps.specs.Reading.{is_in}
use Rattle.file_stamps.specs.Stamped.{id_at, id_in}

-- ---- one more analysis

pub analysis_put : (rows : Rows) (path : List ℕ) (analysis : Analysis) → analysis_at (with_analysis rows path analysis) path ≡ Some analysis
analysis_put [] path analysis = rw ((bytes_eq-Decides path path).1 refl) refl
analysis_put (e ∷ rows) path analysis = by_test (bytes_eq path e.0)
    (λ h. rw (h, h) refl)
    (λ h. rw (h, h) (analysis_put rows path analysis))

pub analysis_other : (rows : Rows) (path q : List ℕ) (analysis : Analysis) → bytes_eq q path ≡ false → analysis_at (with_analysis rows path analysis) q ≡ analysis_at rows q
analysis_other [] path q analysis other = rw other refl
analysis_other (e ∷ rows) path q analysis other = by_test (bytes_eq path e.0)
    (λ h.
    let same : path ≡ e.0 = (bytes_eq-Decides path e.0).0 h in
    let differs : bytes_eq q e.0 ≡ false = subst (λ (p : List ℕ). bytes_eq q p ≡ false) same other in
    rw (h, differs) refl)
    (λ h. rw h (ap (λ o. cond (bytes_eq q e.0) (Some e.1) o) (analysis_other rows path q analysis other)))

-- adding a row for a path without analysis keeps the analyses
pub kept_with : (rows : Rows) (path : List ℕ) (analysis : Analysis) → analysis_at rows path ≡ None → KeepsAnalyses (analysis_at rows) (analysis_at (with_analysis rows path analysis))
kept_with rows path analysis none q there = by_test (bytes_eq q path)
    (λ h.
    let same : q ≡ path = (bytes_eq-Decides q path).0 h in
    let z : false ≡ true = sym (ap is_some (ap (analysis_at rows) same ∙ none)) ∙ there in absurd (cc))
    (λ h. analysis_other rows path q analysis h)

module _ (t : Nodes) where
  abbrev key_by : Nodes → List ℕ → Option Analysis → Option (List ℕ)
  key_by t path analysis = cond (is_none analysis) (key_in (node_at t path)) None

  -- the file's unread key is its node's key, so it had no analysis
  pub had_none : (what : Analyses) (path key : List ℕ) → unread_key t what path ≡ Some key → what path ≡ None
  had_none what path key e = elim (what path) as (λ o. key_by t path o ≡ Some key → o ≡ None)
      [ None ↦ λ h. refl | Some a ↦ λ h. absurd (cc) ] e

  pub key_there : (what : Analyses) (path key : List ℕ) → unread_key t what path ≡ Some key → key_in (node_at t path) ≡ Some key
  key_there what path key e = elim (what path) as (λ o. key_by t path o ≡ Some key → key_in (node_at t path) ≡ Some key)
      [ None ↦ λ h. h | Some a ↦ λ h. absurd (cc) ] e

  -- a file of the tree without analysis has its own key as unread key
  pub file_unread : (what : Analyses) (file : FoundFile) → IsFileOf t file → what file.path ≡ None → unread_key t what file.path ≡ Some file.key
  file_unread what file is none = ap (key_by t file.path) none ∙ ap key_in is

  pub file_id : (file : FoundFile) → IsFileOf t file → id_at t file.path ≡ file.id
  file_id file is = ap id_in is

  pub read_then : (rows : Rows) (path : List ℕ) (analysis : Analysis) → unread_key t (analysis_at (with_analysis rows path analysis)) path ≡ None
  read_then rows path analysis = ap (key_by t path) (analysis_put rows path analysis)

  -- a file that was read stays read
  pub still_read : (what new : Analyses) (q : List ℕ) → KeepsAnalyses what new → unread_key t what q ≡ None → unread_key t new q ≡ None
  still_read what new q keeps e = by_test (is_some (what q))
      (λ h. ap (key_by t q) (keeps q h) ∙ e)
      (λ h.
      let none : key_in (node_at t q) ≡ None = elim (what q) as (λ o. is_some o ≡ false → key_by t q o ≡ None → key_in (node_at t q) ≡ None)
      [ None ↦ λ a b. b | Some a ↦ λ b c. absurd (cc) ] h e in
      elim (is_none (new q)) as (λ b. cond b (key_in (node_at t q)) None ≡ None) [ true ↦ none | false ↦ refl ])

-- ---- the files after the first

-- inequality of texts is symmetric
pub turned : (a b : List ℕ) → bytes_eq a b ≡ false → bytes_eq b a ≡ false
turned a b h = by_test (bytes_eq b a)
    (λ e. let z : true ≡ false = sym ((bytes_eq-Decides a b).1 (sym ((bytes_eq-Decides b a).0 e))) ∙ h in absurd (cc))
    (λ e. e)

abbrev AreOthers : List ℕ → Analyses → Analyses → Type 0
AreOthers path what new = (other : List ℕ) → bytes_eq other path ≡ false → new other ≡ what other

-- the other files' unread paths don't depend on this file's analysis
pub unread_others : (what new : Analyses) (path : List ℕ) (paths : List (List ℕ)) → AreOthers path what new → is_in paths path ≡ false → unread new paths ≡ unread what paths
unread_others what new path [] same out = refl
unread_others what new path (q ∷ paths) same out = by_test (bytes_eq path q)
    (λ h. let z : true ≡ false = sym (ap (λ b. b || is_in paths path) h) ∙ out in absurd (cc))
    (λ h.
    let rest = unread_others what new path paths same (sym (ap (λ b. b || is_in paths path) h) ∙ out) in
    rw (same q (turned path q h)) (ap (λ l. cond (is_none (what q)) (q ∷ l) l) rest))

-- in a strictly sorted list the first path doesn't occur again
pub not_after : (path : List ℕ) (paths : List (List ℕ)) → IsStrictlySortedBy (slice_cmp nat_cmp) (path ∷ paths) → is_in paths path ≡ false
unfolding IsStrictlySortedBy
not_after path paths sorted = later paths sorted.0
  where
    later : (xs : List (List ℕ)) → AllByRecursion (λ y. slice_cmp nat_cmp path y ≡ Less) xs → is_in xs path ≡ false
    later [] all = refl
    later (x ∷ xs) all = by_test (bytes_eq path x)
        (λ e.
        let same : path ≡ x = (bytes_eq-Decides path x).0 e in
        let z : Equal ≡ Less = sym (tied_itself nat_list_cmp_total path) ∙ subst (λ (y : List ℕ). slice_cmp nat_cmp path y ≡ Less) (sym same) all.0 in
        absurd (cc))
        (λ e. ap (λ b. b || is_in xs path) e ∙ later xs all.1)
