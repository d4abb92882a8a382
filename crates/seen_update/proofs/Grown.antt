-- A part of a directory's tree grows while an update looks at more paths. What its search found still holds.
use Rattle.std.proofs.Common.{◌≡◌, true, List, [], ◌∷◌, ◌++◌, flat_map, length, ℕ, ap, refl, sym, subst, ◌∙◌, Option, Some, None}
use Rattle.std.proofs.lemmas.Bool.{and_from, and_parts}
use Rattle.aux_cache.specs.declared.stamps.Stamp.{Stamp}
use Rattle.elf_dynamic.specs.Begun.{lacks_one}
use Rattle.file_stamps.specs.Info.{info_in, info_stamps}
use Rattle.file_stamps.specs.Opened.{HaveSameIds, ids_at, ids_of, opened_keys}
use Rattle.file_stamps.specs.Stamped.{StampTheSame, stamps_at, with_stamps}
use Rattle.file_stamps.specs.State.{ids_there}
use Rattle.file_table.specs.Analyses.{AgreeOn, HaveAnalyses, analysed}
use Rattle.file_table.specs.Table.{analysis_at}
use Rattle.hwcap_dirs.specs.Places.{are_dirs, is_dir}
use Rattle.hwcap_dirs.specs.declared.kinds.Place.{Place}
use Rattle.hwcap_dirs.specs.declared.kinds.Scope.{Scope}
use Rattle.image_tree.specs.Tree.{Nodes, kind_at, node_at}
use Rattle.image_tree.specs.declared.node.Node.{Node}
use Rattle.library_files.specs.Search.{wanted}
use Rattle.library_search.proofs.Judged.{judged_same}
use Rattle.library_search.specs.Begun.{opened_wanted}
use Rattle.library_search.specs.Stages.{HasRead, IsSearchOf, info_found}
use Rattle.library_search.specs.declared.search.Search.{Search}
use Rattle.root_folder.specs.Whole.{IsWhole}
use Rattle.seen_places.proofs.Files.{wanted_nodes, wanted_seen}
use Rattle.seen_places.proofs.Info.{info_seen, stamps_info_seen, stamps_seen}
use Rattle.seen_places.specs.Looked.{names_looked, wanted_looked}
use Rattle.seen_tree.proofs.Same.{kind_seen, seen_parts}
use Rattle.seen_tree.specs.Part.{AreSeen, IsPart}
use Rattle.string_pool.proofs.Members.{is_in}
use Rattle.tree_face.specs.Store.{Contents}
use Rattle.seen_update.proofs.Opened.{ids_seen, opened_seen}
use Rattle.seen_update.specs.Grown.{HasSameFiles}

-- ---- two trees with the same in their search directories

module _ (scope : Scope) (t new : Nodes) (search : Search) (same : HasSameFiles t search.dirs.places new) where
  pub search_stays : IsSearchOf scope t search → IsSearchOf scope new search
  search_stays is = record {
    dirs = same.dirs;
    all = subst (HaveAnalyses (analysis_at search.files.table)) (sym same.files) is.all;
    rows = is.rows ∙ ap (analysed (analysis_at search.files.table)) (sym same.files);
    judged = is.judged;
  }

  module _ (held : Contents) (loaded : List Stamp) where
    abbrev paths : List (List ℕ)
    paths = wanted t search.dirs.places

    info_stays : AgreeOn (wanted t search.dirs.places) (info_found held t loaded search.dirs.places) (info_found held new loaded search.dirs.places)
    info_stays path there = ap (λ files. info_in held new loaded files path) same.files ∙ info_seen t new held loaded paths same.nodes path there

    pub keys_stay : opened_wanted new loaded search.dirs.places ≡ opened_wanted t loaded search.dirs.places
    keys_stay = ap (opened_keys new (ids_of loaded)) same.files ∙ opened_seen t new (ids_of loaded) paths same.nodes

    pub read_stays : HasRead scope held t loaded search → HasRead scope held new loaded search
    read_stays read = record {
      info = λ path there.
          let before : is_in (wanted t search.dirs.places) path ≡ true = ap (λ files. is_in files path) (sym same.files) ∙ there in
          read.info path before
          ∙ sym (judged_same scope (info_found held t loaded search.dirs.places) (info_found held new loaded search.dirs.places) path (info_stays path before));
      stamps = read.stamps
          ∙ ap (with_stamps []) (sym (ap (info_stamps new (info_found held new loaded search.dirs.places)) same.files
          ∙ stamps_info_seen t new (info_found held t loaded search.dirs.places) (info_found held new loaded search.dirs.places) paths same.nodes info_stays));
      stamped = subst (λ l. StampTheSame (loaded ++ search.files.stamps) (loaded ++ l)) (sym (ap (stamps_at held new) same.files ∙ stamps_seen t new held paths same.nodes)) read.stamped;
      ids = subst (λ l. HaveSameIds (ids_there loaded search.files) (ids_of loaded ++ l)) (sym (ap (ids_at new) same.files ∙ ids_seen t new paths same.nodes)) read.ids;
      begun = read.begun ∙ ap length (sym keys_stay);
      none_lacks = ap (lacks_one held) keys_stay ∙ read.none_lacks;
    }

-- ---- two parts of a directory's tree

module _ (t part more : Nodes) (whole : IsWhole t) (is : IsPart t part) (still : IsPart t more) where
  dirs_seen : (places : List Place) → AreSeen t part (flat_map (names_looked t) places) → AreSeen t more (flat_map (names_looked t) places) → are_dirs part places ≡ true → are_dirs more places ≡ true
  dirs_seen [] first next dirs = refl
  dirs_seen (place ∷ places) first next dirs =
      let here = and_parts (is_dir (kind_at part place.real)) (are_dirs part places) dirs in
      let one = seen_parts t part (names_looked t place) (flat_map (names_looked t) places) first in
      let two = seen_parts t more (names_looked t place) (flat_map (names_looked t) places) next in
      and_from _ _ (ap is_dir (kind_seen t more whole still place.real two.0.0 ∙ sym (kind_seen t part whole is place.real one.0.0)) ∙ here.0) (dirs_seen places one.1 two.1 here.1)

  both_seen : (paths : List (List ℕ)) → AreSeen t part paths → AreSeen t more paths → AreSeen part more paths
  both_seen [] first next = tt
  both_seen (path ∷ paths) first next = (next.0 ∙ sym first.0, both_seen paths first.1 next.1)

  -- if the library names of the search directories were seen in both
  pub grows : (places : List Place) → AreSeen t part (wanted_looked t places) → AreSeen t more (wanted_looked t places) → are_dirs part places ≡ true → HasSameFiles part places more
  unfolding wanted_looked
  grows places first next dirs =
      let files = wanted_seen t part whole is places first in
      record {
        dirs = dirs_seen places first next dirs;
        files = wanted_seen t more whole still places next ∙ sym files;
        nodes = subst (AreSeen part more) (sym files) (both_seen (wanted t places) (wanted_nodes t part whole is places first) (wanted_nodes t more whole still places next));
      }

-- what was seen stays seen if no node goes
pub still_seen : (t old new : Nodes) → ((q : List ℕ) (n : Node) → node_at old q ≡ Some n → node_at new q ≡ Some n) → IsPart t new → (paths : List (List ℕ)) → AreSeen t old paths → AreSeen t new paths
still_seen t old new kept is [] all = tt
still_seen t old new kept is (path ∷ paths) all = (by (node_at t path) (node_at new path) refl refl all.0, still_seen t old new kept is paths all.1)
  where
    by : (o n : Option Node) → node_at t path ≡ o → node_at new path ≡ n → node_at old path ≡ node_at t path → node_at new path ≡ node_at t path
    by (Some x) n e f seen = kept path x (seen ∙ e) ∙ sym e
    by None None e f seen = f ∙ sym e
    by None (Some x) e f seen = let none : Some x ≡ None = sym (is.nodes path x f) ∙ e in absurd (cc)
