-- The libraries of a directory are those of a table's rows, if the table has the files of the search directories.
use Rattle.std.proofs.Common.{◌≡◌, ℕ, Bool, true, false, cond, ◌&&◌, ◌||◌, List, [], ◌∷◌, ◌++◌, filter, flat_map, map, refl, ap, sym, subst, ◌∙◌, Option, Some, None}
use Rattle.std.proofs.lemmas.Bool.{and_parts, or_right}
use Rattle.std.proofs.lemmas.Cmp.{nat_list_cmp_total}
use Rattle.std.proofs.lemmas.List.Folds.{list_any-append}
use Rattle.std.proofs.lemmas.List.Kept.{IsStrictlySortedBy-filter}
use Rattle.std.proofs.lemmas.Slice.Eq.{bytes_eq-Decides}
use Rattle.std.specs.BTreeMap.{is_at}
use Rattle.std.specs.Cmp.Lexicographic.{slice_cmp, texts_ties}
use Rattle.std.specs.List.{AllByRecursion, cons_option, dedup, filter_map, list_all, list_any}
use Rattle.std.specs.List.Sorted.{IsStrictlySortedBy}
use Rattle.std.specs.Map.{keys_of, lookup}
use Rattle.std.specs.Option.{is_some, option_and_then, option_map}
use Rattle.std.specs.Ordering.{nat_cmp, ordering_then}
use Rattle.std.specs.Str.{bytes_eq}
use Rattle.std.specs.declared.cmp.Ordering.TheVariants.{Less}
use Rattle.hwcap_dirs.proofs.Children.{children_named}
use Rattle.hwcap_dirs.proofs.Reals.{all_given}
use Rattle.hwcap_dirs.specs.declared.kinds.Place.{Place}
use Rattle.lib_types.proofs.SortedPairs.{by_test}
use Rattle.lib_types.specs.Name.{is_name}
use Rattle.lib_types.specs.declared.analysis.Analysis.{Analysis}
use Rattle.name_order.specs.LibraryName.{is_library_name}
use Rattle.image_tree.proofs.Below.{nat_cmp_itself}
use Rattle.image_tree.proofs.Rising.{children_sorted}
use Rattle.image_tree.specs.Paths.{join, root, stem}
use Rattle.image_tree.specs.Tree.{Nodes, IsTree, children_of, kind_at, names_below, of_dir}
use Rattle.image_tree.specs.declared.tree.Kind.{Kind}
use Rattle.image_tree.specs.declared.tree.Kind.TheVariants as kinds
use Rattle.path_walk.proofs.Linked.{folder_of_dir}
use Rattle.path_walk.specs.Files.{is_file}
use Rattle.path_walk.specs.Names.{last, parent}
use Rattle.string_pool.proofs.Members.{each_meets, cmp}
use Rattle.string_pool.proofs.EachOnce.{each_alike}
use Rattle.library_files.proofs.FolderRows.{reals}
use Rattle.string_pool.proofs.InByteOrder.{ascending_sorted, in_ascending}
use Rattle.path_walk.proofs.Last.{last_joined, parent_joined}
use Rattle.string_pool.proofs.Members.{AreSorted, is_in, kept_in, left_out, same_members}
use Rattle.string_pool.proofs.Ordered.{by_entries, filtered_same}
use Rattle.file_table.specs.Analyses.{Analyses}
use Rattle.place_libraries.specs.Libraries.{libraries_at, library_at, library_by, library_in}
use Rattle.place_libraries.specs.Library.{Library}
use Rattle.library_files.specs.RealFolders.{HaveRows}
use Rattle.place_libraries.specs.Rows.{AreOfPlaces, libraries_among, library_of}
use Rattle.library_files.specs.Search.{file_in, files_at, files_in, wanted}
use Rattle.file_table.specs.Table.{Rows, analysis_at}
use Rattle.lib_types.proofs.SameTexts.{itself}

-- the path is that of a file in this directory
abbrev is_of : List ℕ → List ℕ → Bool
is_of folder path = bytes_eq (parent path) folder

-- ---- the files of a directory, sorted by their names

joined_cmp : (front a b : List ℕ) → cmp (front ++ a) (front ++ b) ≡ cmp a b
joined_cmp [] a b = refl
joined_cmp (x ∷ front) a b = ap (λ r. ordering_then r (cmp (front ++ a) (front ++ b))) (nat_cmp_itself x) ∙ joined_cmp front a b

module _ (t : Nodes) (folder : List ℕ) where
  abbrev file_if : List ℕ → Bool → Option (List ℕ)
  file_if name there = cond there (Some (join folder name)) None

  abbrev is_there : List ℕ → Bool
  is_there name = is_library_name name && is_file (kind_at t (join folder name))

  all_after : (name : List ℕ) (names : List (List ℕ)) → AllByRecursion (λ y. cmp name y ≡ Less) names
      → AllByRecursion (λ y. cmp (join folder name) y ≡ Less) (filter_map (file_in t folder) names)
  all_after name [] a = tt
  all_after name (next ∷ names) a =
      elim (is_there next) as (λ b. AllByRecursion (λ y. cmp (join folder name) y ≡ Less) (cons_option (file_if next b) (filter_map (file_in t folder) names)))
      [ true ↦ (joined_cmp (stem folder ++ root) name next ∙ a.0, all_after name names a.1) | false ↦ all_after name names a.1 ]

  files_sorted : (names : List (List ℕ)) → AreSorted names → AreSorted (filter_map (file_in t folder) names)
  unfolding IsStrictlySortedBy
  files_sorted [] s = tt
  files_sorted (name ∷ names) s =
      elim (is_there name) as (λ b. AreSorted (cons_option (file_if name b) (filter_map (file_in t folder) names)))
      [ true ↦ (all_after name names s.0, files_sorted names s.1) | false ↦ files_sorted names s.1 ]

  file_is : (name path : List ℕ) → file_in t folder name ≡ Some path → join folder name ≡ path
  file_is name path e = by_test (is_there name)
      (λ h. let found : Some (join folder name) ≡ Some path = sym (ap (file_if name) h) ∙ e in cc)
      (λ h. let none : None ≡ Some path = sym (ap (file_if name) h) ∙ e in absurd (cc))

  one_is_of : kind_at t folder ≡ kinds.Dir → (name path : List ℕ) → is_name name ≡ true → file_in t folder name ≡ Some path → is_of folder path ≡ true
  one_is_of dir name path named e =
      (bytes_eq-Decides (parent path) folder).1 (ap parent (sym (file_is name path e)) ∙ parent_joined folder name named (folder_of_dir t folder dir))

  all_are_of : (kind : Kind) (names : List (List ℕ)) → kind_at t folder ≡ kind → list_all is_name (of_dir kind names) ≡ true
      → list_all (is_of folder) (filter_map (file_in t folder) (of_dir kind names)) ≡ true
  all_are_of kinds.Dir names dir named = all_given (is_of folder) is_name (file_in t folder) (one_is_of dir) names named
  all_are_of kinds.Absent names dir named = refl
  all_are_of kinds.File names dir named = refl
  all_are_of kinds.Link names dir named = refl

-- ---- the files of a directory among those of all search directories

shared : (a b c : Bool) → ((a && c) || (b && c)) ≡ ((a || b) && c)
shared true b true = refl
shared true true false = refl
shared true false false = refl
shared false b c = refl

module _ (t : Nodes) (tree : IsTree t) where
  are_of : (folder : List ℕ) → list_all (is_of folder) (files_at t folder) ≡ true
  are_of folder = all_are_of t folder (kind_at t folder) (dedup bytes_eq (names_below t folder)) refl (children_named t folder tree.entries)

  module _ (folder z : List ℕ) (here : parent z ≡ folder) where
    of_one : (other : List ℕ) → is_in (files_at t other) z ≡ (bytes_eq folder other && is_in (files_at t folder) z)
    of_one other = by_test (bytes_eq folder other)
        (λ e.
        ap (λ q. is_in (files_at t q) z) (sym ((bytes_eq-Decides folder other).0 e)) ∙ sym (ap (λ b. b && is_in (files_at t folder) z) e))
        (λ e. by_test (is_in (files_at t other) z)
        (λ h.
        let parted : bytes_eq (parent z) other ≡ true = each_meets (is_of other) (files_at t other) z (are_of other) h in
        let no : true ≡ false = sym parted ∙ ap (λ q. bytes_eq q other) here ∙ e in absurd (cc))
        (λ h. h ∙ sym (ap (λ b. b && is_in (files_at t folder) z) e)))

    of_all : (places : List Place) → is_in (flat_map (files_in t) places) z ≡ (list_any (bytes_eq folder) (reals places) && is_in (files_at t folder) z)
    of_all [] = refl
    of_all (place ∷ places) =
        let rest = flat_map (files_in t) places in
        list_any-append (bytes_eq z) (files_in t place) rest
        ∙ ap (λ b. b || is_in rest z) (of_one place.real)
        ∙ ap (λ b. (bytes_eq folder place.real && is_in (files_at t folder) z) || b) (of_all places)
        ∙ shared (bytes_eq folder place.real) (list_any (bytes_eq folder) (reals places)) (is_in (files_at t folder) z)

  module _ (places : List Place) (folder : List ℕ) (there : list_any (bytes_eq folder) (reals places) ≡ true) where
    kept_same : (z : List ℕ) → (is_of folder z && is_in (flat_map (files_in t) places) z) ≡ is_in (files_at t folder) z
    kept_same z = by_test (is_of folder z)
        (λ e.
        ap (λ b. b && is_in (flat_map (files_in t) places) z) e
        ∙ of_all folder z ((bytes_eq-Decides (parent z) folder).0 e) places
        ∙ ap (λ b. b && is_in (files_at t folder) z) there)
        (λ e. ap (λ b. b && is_in (flat_map (files_in t) places) z) e ∙ by_test (is_in (files_at t folder) z)
        (λ h. let no : true ≡ false = sym (each_meets (is_of folder) (files_at t folder) z (are_of folder) h) ∙ e in absurd (cc))
        (λ h. sym h))

    pub files_of_folder : filter (is_of folder) (wanted t places) ≡ files_at t folder
    unfolding wanted
    files_of_folder =
        let all = flat_map (files_in t) places in
        same_members (filter (is_of folder) (wanted t places)) (files_at t folder)
        (IsStrictlySortedBy-filter (slice_cmp nat_cmp) (is_of folder) (wanted t places) (ascending_sorted all))
        (files_sorted t folder (children_of t folder) (children_sorted t folder tree.sorted))
        (λ z. kept_in (is_of folder) z (wanted t places) ∙ ap (λ b. is_of folder z && b) (in_ascending all z) ∙ kept_same z)

-- ---- the rows of paths

wanted_sorted : (t : Nodes) (places : List Place) → AreSorted (wanted t places)
unfolding wanted
wanted_sorted t places = ascending_sorted (flat_map (files_in t) places)

found_same : (path : List ℕ) (rows : Rows) → lookup (is_at (cmp path)) rows ≡ analysis_at rows path
found_same path [] = refl
found_same path (row ∷ rows) =
    ap (λ b. cond b (Some row.1) (lookup (is_at (cmp path)) rows)) (sym (texts_ties path row.0)) ∙ ap (cond (bytes_eq path row.0) (Some row.1)) (found_same path rows)

-- the row of a path, if it has ELF information
abbrev row_with : Analyses → List ℕ → Option (List ℕ × Analysis)
row_with what path = option_map (λ analysis. (path, analysis)) (what path)

rows_by_paths : (rows : Rows) → AreSorted (keys_of rows) → filter_map (row_with (analysis_at rows)) (keys_of rows) ≡ rows
rows_by_paths rows sorted =
    filtered_same (row_with (analysis_at rows)) (λ path. option_map (λ analysis. (path, analysis)) (lookup (is_at (cmp path)) rows))
    (λ path. ap (option_map (λ analysis. (path, analysis))) (sym (found_same path rows))) (keys_of rows)
    ∙ by_entries nat_list_cmp_total rows sorted

-- two passes of `filter_map` are one pass
fused : {X Y Z : Type 0} (f : X → Option Y) (g : Y → Option Z) (xs : List X) → filter_map g (filter_map f xs) ≡ filter_map (λ x. option_and_then g (f x)) xs
fused f g [] = refl
fused f g (x ∷ xs) =
    elim (f x) as (λ o. filter_map g (cons_option o (filter_map f xs)) ≡ cons_option (option_and_then g o) (filter_map (λ x. option_and_then g (f x)) xs))
    [ None ↦ fused f g xs | Some y ↦ ap (cons_option (g y)) (fused f g xs) ]

-- ---- the library of a path

module _ (what : Analyses) (folder : List ℕ) where
  abbrev made_of : List ℕ → Option Analysis → Option Library
  made_of path found = option_and_then (library_of folder) (option_map (λ analysis. (path, analysis)) found)

  abbrev library_if : List ℕ → Option Library
  library_if path = made_of path (what path)

  none_unread : (path : List ℕ) → is_some (what path) ≡ false → library_if path ≡ None
  none_unread path h = elim (what path) as (λ o. is_some o ≡ false → made_of path o ≡ None) [ None ↦ λ e. refl | Some analysis ↦ λ e. absurd (cc) ] h

  none_elsewhere : (path : List ℕ) → is_of folder path ≡ false → library_if path ≡ None
  none_elsewhere path h = elim (what path) as (λ o. made_of path o ≡ None)
      [ None ↦ refl | Some analysis ↦ ap (λ b. cond b (library_by (last path) (last path) analysis) None) h ]

  same_library : (path name : List ℕ) → is_of folder path ≡ true → last path ≡ name → library_if path ≡ library_at what path name name
  same_library path name here named = elim (what path) as (λ o. made_of path o ≡ option_and_then (library_by name name) o)
      [ None ↦ refl | Some analysis ↦ ap (λ b. cond b (library_by (last path) (last path) analysis) None) here ∙ ap (λ n. library_by n n analysis) named ]

  module _ (t : Nodes) where
    of_name : kind_at t folder ≡ kinds.Dir → (name : List ℕ) → is_name name ≡ true → option_and_then library_if (file_in t folder name) ≡ library_in what t folder name
    of_name dir name named =
        let here = (bytes_eq-Decides (parent (join folder name)) folder).1 (parent_joined folder name named (folder_of_dir t folder dir)) in
        elim (is_there t folder name) as (λ b. option_and_then library_if (file_if t folder name b) ≡ option_and_then (λ path. library_at what path name name) (file_if t folder name b))
        [ true ↦ same_library (join folder name) name here (last_joined folder name named) | false ↦ refl ]

    of_names : kind_at t folder ≡ kinds.Dir → (names : List (List ℕ)) → list_all is_name names ≡ true
        → filter_map (λ name. option_and_then library_if (file_in t folder name)) names ≡ filter_map (library_in what t folder) names
    of_names dir [] named = refl
    of_names dir (name ∷ names) named =
        let parts = and_parts (is_name name) (list_all is_name names) named in
        ap (λ o. cons_option o (filter_map (λ name. option_and_then library_if (file_in t folder name)) names)) (of_name dir name parts.0)
        ∙ ap (cons_option (library_in what t folder name)) (of_names dir names parts.1)

    of_kind : (kind : Kind) (names : List (List ℕ)) → kind_at t folder ≡ kind → list_all is_name (of_dir kind names) ≡ true
        → filter_map library_if (filter_map (file_in t folder) (of_dir kind names)) ≡ filter_map (library_in what t folder) (of_dir kind names)
    of_kind kinds.Dir names dir named = fused (file_in t folder) library_if names ∙ of_names dir names named
    of_kind kinds.Absent names dir named = refl
    of_kind kinds.File names dir named = refl
    of_kind kinds.Link names dir named = refl

    libraries_of_files : IsTree t → filter_map library_if (files_at t folder) ≡ libraries_at what t folder
    libraries_of_files tree = of_kind (kind_at t folder) (dedup bytes_eq (names_below t folder)) refl (children_named t folder tree.entries)

-- ---- the libraries of rows

module _ (t : Nodes) (tree : IsTree t) (places : List Place) (rows : Rows) (are : AreOfPlaces t places rows) where
  abbrev what : Analyses
  what = analysis_at rows

  rows_sorted : AreSorted (keys_of rows)
  rows_sorted = subst AreSorted (sym are) (IsStrictlySortedBy-filter (slice_cmp nat_cmp) (λ path. is_some (what path)) (wanted t places) (wanted_sorted t places))

  by_paths : (folder : List ℕ) → libraries_among rows folder ≡ filter_map (library_if what folder) (keys_of rows)
  by_paths folder = ap (filter_map (library_of folder)) (sym (rows_by_paths rows rows_sorted)) ∙ fused (row_with what) (library_of folder) (keys_of rows)

  pub libraries_of_rows : (folder : List ℕ) → list_any (bytes_eq folder) (reals places) ≡ true → libraries_among rows folder ≡ libraries_at (analysis_at rows) t folder
  libraries_of_rows folder there =
      let made = library_if what folder in
      by_paths folder ∙ ap (filter_map made) are
      ∙ left_out (λ path. is_some (what path)) made (none_unread what folder) (wanted t places)
      ∙ sym (left_out (is_of folder) made (none_elsewhere what folder) (wanted t places))
      ∙ ap (filter_map made) (files_of_folder t tree places folder there)
      ∙ libraries_of_files what folder t tree

  of_folders : (folders : List (List ℕ)) → ((folder : List ℕ) → is_in folders folder ≡ true → is_in (reals places) folder ≡ true)
      → map (libraries_among rows) folders ≡ map (libraries_at (analysis_at rows) t) folders
  of_folders [] h = refl
  of_folders (folder ∷ folders) h =
      ap (λ found. found ∷ map (libraries_among rows) folders) (libraries_of_rows folder (h folder (ap (λ b. b || is_in folders folder) (itself folder))))
      ∙ ap (λ found. libraries_at (analysis_at rows) t folder ∷ found) (of_folders folders (λ q in_rest. h q (or_right (bytes_eq q folder) (is_in folders q) in_rest)))

  pub all_libraries : (folders : List (List ℕ)) (indices : List ℕ) → HaveRows (reals places) folders indices → map (libraries_among rows) folders ≡ map (libraries_at (analysis_at rows) t) folders
  all_libraries folders indices have =
      of_folders folders (λ folder there. sym (each_alike folders indices have.rows (bytes_eq folder) ∙ ap (list_any (bytes_eq folder)) have.are) ∙ there)
