-- The rows of a table, each added to the libraries of its directory.
use Rattle.std.proofs.Common.{◌≡◌, ◌+◌, ℕ, zero, suc, ◌||◌, true, false, cond, List, [], ◌∷◌, ◌++◌, append_assoc, get_or, length, map, set, refl, ap, sym, ◌∙◌, Option, Some, None, arith}
use Rattle.std.proofs.lemmas.Bool.{or_parts}
use Rattle.std.proofs.lemmas.List.{append-nil}
use Rattle.std.proofs.lemmas.List.Elements.{filter_map-append}
use Rattle.std.proofs.lemmas.Slice.Eq.{bytes_eq-Decides}
use Rattle.std.specs.List.{AllByRecursion, IsDistinct, cons_option, filter_map, fold, list_any, slice_get}
use Rattle.std.specs.Str.{bytes_eq}
use Rattle.lib_types.proofs.SortedPairs.{by_test}
use Rattle.lib_types.specs.declared.analysis.Analysis.{Analysis}
use Rattle.path_walk.specs.Names.{last, parent}
use Rattle.place_libraries.specs.Libraries.{library_by}
use Rattle.place_libraries.specs.Library.{Library}
use Rattle.place_libraries.specs.Rows.{libraries_among, library_of, with_row}
use Rattle.file_table.specs.Table.{Rows}

abbrev pub Found : Type 0
Found = List (List Library)

-- ---- the library of one row

module _ (path : List ℕ) (analysis : Analysis) where
  abbrev made : Option Library
  made = library_by (last path) (last path) analysis

  -- a row of another directory, or of a file that isn't a library, adds nothing
  away : (folder : List ℕ) (libraries : List Library) → cond (bytes_eq (parent path) folder) made None ≡ None → libraries ++ filter_map (library_of folder) ((path, analysis) ∷ []) ≡ libraries
  away folder libraries e = ap (λ o. libraries ++ cons_option o []) e ∙ append-nil libraries

  pub row_none : made ≡ None → (folders : List (List ℕ)) (found : Found) → length found ≡ length folders → found ≡ with_row (path, analysis) folders found
  row_none none [] found e = refl
  row_none none (folder ∷ folders) [] e = refl
  row_none none (folder ∷ folders) (libraries ∷ found) e =
      let nothing : cond (bytes_eq (parent path) folder) made None ≡ None =
      elim (bytes_eq (parent path) folder) as (λ b. cond b made None ≡ None) [ true ↦ none | false ↦ refl ] in
      sym (ap (λ l. l ∷ with_row (path, analysis) folders found) (away folder libraries nothing) ∙ ap (λ ls. libraries ∷ ls) (sym (row_none none folders found (omega (arith, e)))))

  pub row_away : (folders : List (List ℕ)) (found : Found) → list_any (bytes_eq (parent path)) folders ≡ false → length found ≡ length folders → found ≡ with_row (path, analysis) folders found
  row_away [] found none e = refl
  row_away (folder ∷ folders) [] none e = refl
  row_away (folder ∷ folders) (libraries ∷ found) none e =
      let parts = or_parts (bytes_eq (parent path) folder) (list_any (bytes_eq (parent path)) folders) none in
      sym (ap (λ l. l ∷ with_row (path, analysis) folders found) (away folder libraries (ap (λ b. cond b made None) parts.0))
      ∙ ap (λ ls. libraries ∷ ls) (sym (row_away folders found parts.1 (omega (arith, e)))))

  -- the directories after the row's directory are different from it
  others : (folder : List ℕ) (folders : List (List ℕ)) → parent path ≡ folder → AllByRecursion (λ y. bytes_eq folder y ≡ false) folders → list_any (bytes_eq (parent path)) folders ≡ false
  others folder [] is all = refl
  others folder (next ∷ folders) is all = ap (λ b. b || list_any (bytes_eq (parent path)) folders) (ap (λ f. bytes_eq f next) is ∙ all.0) ∙ others folder folders is all.1

  -- a directory before the row's directory is different from it
  ahead : (folder : List ℕ) (folders : List (List ℕ)) (row : ℕ) → AllByRecursion (λ y. bytes_eq folder y ≡ false) folders → slice_get folders row ≡ Some (parent path) → bytes_eq (parent path) folder ≡ false
  ahead folder [] row all at = absurd (cc)
  ahead folder (next ∷ folders) zero all at =
      let same : next ≡ parent path = cc in
      by_test (bytes_eq (parent path) folder)
      (λ e.
      let there : bytes_eq folder next ≡ true = (bytes_eq-Decides folder next).1 (sym ((bytes_eq-Decides (parent path) folder).0 e) ∙ sym same) in
      let z : true ≡ false = sym there ∙ all.0 in absurd (cc))
      (λ e. e)
  ahead folder (next ∷ folders) (suc row) all at = ahead folder folders row all.1 at

  pub row_added : (library : Library) → made ≡ Some library → (folders : List (List ℕ)) (found : Found) (row : ℕ) → IsDistinct bytes_eq folders
      → slice_get folders row ≡ Some (parent path) → length found ≡ length folders → set found row (get_or found row [] ++ library ∷ []) ≡ with_row (path, analysis) folders found
  unfolding IsDistinct
  row_added library is [] found row distinct at e = absurd (cc)
  row_added library is (folder ∷ folders) [] row distinct at e = absurd (omega (arith, e))
  row_added library is (folder ∷ folders) (libraries ∷ found) zero distinct at e =
      let same : parent path ≡ folder = cc in
      let there : bytes_eq (parent path) folder ≡ true = (bytes_eq-Decides (parent path) folder).1 same in
      let one : filter_map (library_of folder) ((path, analysis) ∷ []) ≡ library ∷ [] = ap (λ b. cons_option (cond b made None) []) there ∙ ap (λ o. cons_option o []) is in
      ap (λ ls. (libraries ++ library ∷ []) ∷ ls) (row_away folders found (others folder folders same distinct.0) (omega (arith, e)))
      ∙ ap (λ ls. (libraries ++ ls) ∷ with_row (path, analysis) folders found) (sym one)
  row_added library is (folder ∷ folders) (libraries ∷ found) (suc row) distinct at e =
      let differs = ahead folder folders row distinct.0 at in
      ap (λ ls. libraries ∷ ls) (row_added library is folders found row distinct.1 at (omega (arith, e)))
      ∙ ap (λ l. l ∷ with_row (path, analysis) folders found) (sym (away folder libraries (ap (λ b. cond b made None) differs)))

-- ---- all rows

pub as_many : (row : List ℕ × Analysis) (folders : List (List ℕ)) (found : Found) → length found ≡ length folders → length (with_row row folders found) ≡ length folders
as_many row [] found e = e
as_many row (folder ∷ folders) [] e = e
as_many row (folder ∷ folders) (libraries ∷ found) e = let rest = as_many row folders found (omega (arith, e)) in omega (arith, rest)

abbrev pub spread : List (List ℕ) → Rows → Found → Found
spread folders rows found = fold (λ ls row. with_row row folders ls) found rows

one_row : (done : Rows) (row : List ℕ × Analysis) (folders : List (List ℕ)) → with_row row folders (map (libraries_among done) folders) ≡ map (libraries_among (done ++ row ∷ [])) folders
one_row done row [] = refl
one_row done row (folder ∷ folders) =
    ap (λ l. l ∷ with_row row folders (map (libraries_among done) folders)) (sym (filter_map-append (library_of folder) done (row ∷ [])))
    ∙ ap (λ ls. libraries_among (done ++ row ∷ []) folder ∷ ls) (one_row done row folders)

rows_from : (folders : List (List ℕ)) (rows done : Rows) → spread folders rows (map (libraries_among done) folders) ≡ map (libraries_among (done ++ rows)) folders
rows_from folders [] done = ap (λ rs. map (libraries_among rs) folders) (sym (append-nil done))
rows_from folders (row ∷ rows) done =
    ap (spread folders rows) (one_row done row folders) ∙ rows_from folders rows (done ++ row ∷ [])
    ∙ ap (λ rs. map (libraries_among rs) folders) (append_assoc done (row ∷ []) rows)

pub all_rows : (folders : List (List ℕ)) (rows : Rows) → spread folders rows (map (libraries_among []) folders) ≡ map (libraries_among rows) folders
all_rows folders rows = rows_from folders rows []
