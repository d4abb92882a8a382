-- The analyses that were read for an image's files are right.
use Rattle.std.proofs.Common.{◌≡◌, ◌&&◌, ◌||◌, ◌++◌, ℕ, true, false, not, List, [], ◌∷◌, Option, Some, None, refl, ap, sym, ◌∙◌, filter}
use Rattle.std.proofs.lemmas.Bool.{and_parts, or_left, or_right}
use Rattle.std.proofs.lemmas.List.Folds.{list_any-append}
use Rattle.std.specs.Cmp.Lexicographic.{slice_cmp}
use Rattle.std.specs.List.{filter_map}
use Rattle.std.specs.List.Sorted.{IsStrictlySortedBy}
use Rattle.std.specs.Map.{keys_of}
use Rattle.std.specs.Option.{is_none, is_some, option_and_then, option_map}
use Rattle.std.specs.Ordering.{nat_cmp}
use Rattle.std.specs.Str.{bytes_eq}
use Rattle.elf_dynamic.specs.Analysis.{analysis}
use Rattle.file_stamps.specs.Files.{what_is}
use Rattle.elf_dynamic.specs.Begun.{key_in}
use Rattle.hwcap_dirs.specs.declared.kinds.Place.{Place}
use Rattle.lib_types.proofs.SortedPairs.{by_test}
use Rattle.lib_types.specs.declared.analysis.Analysis.{Analysis}
use Rattle.string_pool.proofs.InByteOrder.{ascending_sorted, in_ascending}
use Rattle.place_libraries.specs.Rows.{AreOfPlaces}
use Rattle.string_pool.proofs.Members.{is_in, kept_in}
use Rattle.file_table.specs.Analyses.{AgreeOn, Analyses, HaveAnalyses, unread}
use Rattle.string_pool.specs.Order.{ascending}
use Rattle.library_files.specs.Search.{reached, wanted}
use Rattle.file_table.specs.Table.{Rows, analysis_at}
use Rattle.planned_tree.proofs.Agree.{agree}
use Rattle.planned_tree.specs.Search.{IsSearchedAlike, file_in}
use Rattle.file_stamps.specs.Stamped.{content_of, id_at, id_in}
use Rattle.image_tree.specs.declared.node.Node.{Node}
use Rattle.image_tree.specs.declared.node.Node.TheVariants as node
use Rattle.tree_face.specs.Store.{Contents}
use Rattle.image_tree.specs.Tree.{Nodes, node_at}
use Rattle.update_report.proofs.Picked.{in_table, same_picked}
use Rattle.update_report.proofs.SkipsOfFiles.{skips_agree}
use Rattle.update_report.specs.Skips.{skip_at}
use Rattle.planned_tree.proofs.Alike.{key_of}

-- ---- the order in which the paths are read

pub wanted_sorted : (t : Nodes) (places : List Place) → IsStrictlySortedBy (slice_cmp nat_cmp) (wanted t places)
unfolding wanted
wanted_sorted t places = ascending_sorted _

pub reached_sorted : (t : Nodes) (places : List Place) → IsStrictlySortedBy (slice_cmp nat_cmp) (reached t places)
unfolding reached
reached_sorted t places = ascending_sorted _

-- ---- trees with the same files

-- each path has the same file in both trees
abbrev pub HaveSameFiles : Nodes → Nodes → Type 0
HaveSameFiles t new = (path : List ℕ) → file_in (node_at new path) ≡ file_in (node_at t path)

id_of : (o : Option Node) → id_in o ≡ option_and_then (λ file. file.1) (file_in o)
id_of None = refl
id_of (Some node.Dir) = refl
id_of (Some (node.File key id)) = refl
id_of (Some (node.Link target)) = refl

module _ (t new : Nodes) (files : HaveSameFiles t new) where
  pub key_by : (path : List ℕ) → key_in (node_at new path) ≡ key_in (node_at t path)
  key_by path = key_of (node_at new path) ∙ ap (option_map (λ file. file.0)) (files path) ∙ sym (key_of (node_at t path))

  pub id_by : (path : List ℕ) → id_at new path ≡ id_at t path
  id_by path = id_of (node_at new path) ∙ ap (option_and_then (λ file. file.1)) (files path) ∙ sym (id_of (node_at t path))

module _ (held : Contents) (t new : Nodes) (alike : IsSearchedAlike t new) where
  pub key_same : (path : List ℕ) → key_in (node_at new path) ≡ key_in (node_at t path)
  key_same = key_by t new alike.files

  pub id_same : (path : List ℕ) → id_at new path ≡ id_at t path
  id_same = id_by t new alike.files

  pub content_same : (path : List ℕ) → content_of held new path ≡ content_of held t path
  content_same path = ap (option_and_then held) (key_same path)

  pub what_same : (path : List ℕ) → what_is held new path ≡ what_is held t path
  what_same path = ap (λ k. option_map analysis (option_and_then held k)) (key_same path)

-- ---- the targets of links

-- a path with an analysis is the path of a row
has_row : (rows : Rows) (path : List ℕ) → is_some (analysis_at rows path) ≡ true → is_in (keys_of rows) path ≡ true
has_row [] path h = absurd (cc)
has_row (e ∷ rows) path h = by_test (bytes_eq path e.0)
    (λ f. or_left (bytes_eq path e.0) (is_in (keys_of rows) path) f)
    (λ f. or_right (bytes_eq path e.0) (is_in (keys_of rows) path) (has_row rows path (rw f at h)))

-- the table of the search directories' files has no row for another path
pub rows_only : (t : Nodes) (places : List Place) (rows : Rows) → AreOfPlaces t places rows → (path : List ℕ) → is_in (keys_of rows) path ≡ true → is_in (wanted t places) path ≡ true
rows_only t places rows are path there =
    let both : (is_some (analysis_at rows path) && is_in (wanted t places) path) ≡ true =
    sym (kept_in (λ q. is_some (analysis_at rows q)) path (wanted t places)) ∙ ap (λ l. is_in l path) (sym are) ∙ there in
    (and_parts (is_some (analysis_at rows path)) (is_in (wanted t places) path) both).1

none_not : (a : Option Analysis) → is_none a ≡ not (is_some a)
none_not None = refl
none_not (Some a) = refl

module _ (rows : Rows) (wanted_paths : List (List ℕ)) (all : HaveAnalyses (analysis_at rows) wanted_paths)
    (only : (path : List ℕ) → is_in (keys_of rows) path ≡ true → is_in wanted_paths path ≡ true) where
  some_there : (path : List ℕ) → is_some (analysis_at rows path) ≡ is_in wanted_paths path
  some_there path = by_test (is_in wanted_paths path)
      (λ e. all path e ∙ sym e)
      (λ e. by_test (is_some (analysis_at rows path))
      (λ f. let z : true ≡ false = sym (only path (has_row rows path f)) ∙ e in absurd (cc))
      (λ f. f ∙ sym e))

  -- the unread paths are those that aren't wanted paths
  pub unread_are : (paths : List (List ℕ)) → unread (analysis_at rows) paths ≡ filter (λ path. not (is_in wanted_paths path)) paths
  unread_are paths =
      ap (λ keep. filter keep paths)
      (agree (λ path. is_none (analysis_at rows path)) (λ path. not (is_in wanted_paths path)) (λ path. none_not (analysis_at rows path) ∙ ap not (some_there path)))

-- ---- the files that aren't libraries

module _ (what : Analyses) (rows : Rows) (wanted_paths reached_paths : List (List ℕ)) where
  all_agree : AgreeOn wanted_paths what (analysis_at rows) → AgreeOn reached_paths what (analysis_at rows) → AgreeOn (ascending (wanted_paths ++ reached_paths)) what (analysis_at rows)
  all_agree one other path there = by_test (is_in wanted_paths path)
      (λ e. one path e)
      (λ e. other path (sym (ap (λ b. b || is_in reached_paths path) e) ∙ sym (list_any-append (bytes_eq path) wanted_paths reached_paths)
      ∙ sym (in_ascending (wanted_paths ++ reached_paths) path) ∙ there))

  pub skips_are : AgreeOn wanted_paths what (analysis_at rows) → AgreeOn reached_paths what (analysis_at rows)
      → ((path : List ℕ) → is_in (keys_of rows) path ≡ true → (is_in wanted_paths path || is_in reached_paths path) ≡ true)
      → filter_map (skip_at (analysis_at rows)) (ascending (keys_of rows)) ≡ filter_map (skip_at what) (ascending (wanted_paths ++ reached_paths))
  skips_are one other only =
      same_picked (analysis_at rows) (keys_of rows) (wanted_paths ++ reached_paths)
      (λ z h.
      let there = in_table rows z h in
      there ∙ sym (list_any-append (bytes_eq z) wanted_paths reached_paths ∙ only z there))
      ∙ skips_agree what (analysis_at rows) (ascending (wanted_paths ++ reached_paths)) (all_agree one other)
