-- The results before the links are planned.
use Rattle.std.proofs.Common.{◌≡◌, ◌+◌, ◌++◌, ℕ, false, List, [], length, Option, Some, None, Result, Ok, Err, ap, sym, subst, ◌∙◌, arith}
use Rattle.std.proofs.lemmas.List.{append-nil}
use Rattle.std.specs.Prelude.{IfOk}
use Rattle.aux_cache.specs.declared.stamps.Stamp.{Stamp}
use Rattle.elf_dynamic.specs.Begun.{lacks_one}
use Rattle.hwcap_dirs.specs.Places.{absent, places}
use Rattle.hwcap_dirs.specs.declared.kinds.Place.{Place}
use Rattle.hwcap_dirs.specs.declared.kinds.Scope.{Scope}
use Rattle.ldso_conf.specs.Reading.{IsConfOf, conf_lacks}
use Rattle.ldso_conf.specs.declared.kinds.Conf.{Conf}
use Rattle.file_table.proofs.Unread.{none_read}
use Rattle.file_table.specs.Analyses.{AgreeOn, Analyses, unread}
use Rattle.library_files.specs.Search.{wanted}
use Rattle.file_table.specs.Table.{analysis_at}
use Rattle.file_stamps.specs.Opened.{HaveSameIds, ids_at, ids_of, opened_keys}
use Rattle.file_stamps.specs.Info.{info_in, info_stamps}
use Rattle.file_stamps.specs.Stamped.{StampTheSame, stamps_at, with_stamps}
use Rattle.file_stamps.specs.State.{ids_there, stamps_there, unread_paths}
use Rattle.file_stamps.specs.declared.files.Files.{Files}
use Rattle.tree_face.proofs.Known.{known_then}
use Rattle.tree_face.specs.Known.{IfKnown}
use Rattle.tree_face.specs.Store.{Contents}
use Rattle.image_tree.specs.Tree.{Nodes}
use Rattle.library_search.proofs.Judged.{judged_agrees}
use Rattle.library_search.specs.Begun.{opened_wanted, wanted_keys}
use Rattle.library_search.specs.Judged.{judged}
use Rattle.library_search.specs.Ldconfig.{conf_in, conf_of, places_in, wanted_in}
use Rattle.library_search.specs.Found.{IsSearched}
use Rattle.library_search.specs.Stages.{HasRead}
use Rattle.library_search.specs.declared.search.Search.{Search}

-- no files were read before
pub record IsEmpty (first : Files) : Type 0 where
  pub table : first.table ≡ []
  pub stamps : first.stamps ≡ []
  pub begun : first.begun ≡ 0

pub is_empty : (first : Files) → first.table ≡ [] → first.stamps ≡ [] → first.begun ≡ 0 → IsEmpty first
is_empty first none no_stamps zero_begun = record { table = none; stamps = no_stamps; begun = zero_begun }

-- ---- given the search directories

module _ (t : Nodes) (loaded : List Stamp) (first : Files) (empty : IsEmpty first) where
  stamps_first : stamps_there loaded first ≡ loaded
  stamps_first = ap (λ l. loaded ++ l) empty.stamps ∙ append-nil loaded

  paths_are : (places : List Place) → unread_paths first (wanted t places) ≡ wanted t places
  paths_are places = ap (λ rows. unread (analysis_at rows) (wanted t places)) empty.table ∙ none_read (wanted t places)

  pub keys_are : (places : List Place) → opened_keys t (ids_there loaded first) (unread_paths first (wanted t places)) ≡ opened_wanted t loaded places
  keys_are places =
      ap (λ l. opened_keys t (ids_of l) (unread_paths first (wanted t places))) stamps_first ∙ ap (opened_keys t (ids_of loaded)) (paths_are places)

  module _ (scope : Scope) (search : Search) (what : Analyses) (judges : (path : List ℕ) → analysis_at search.files.table path ≡ judged scope what path) where
    -- the paths that are read
    abbrev paths : List (List ℕ)
    paths = unread_paths first (wanted t search.dirs.places)

    has_read : (held : Contents) → AgreeOn (unread_paths first (wanted t search.dirs.places)) (info_in held t (stamps_there loaded first) (unread_paths first (wanted t search.dirs.places))) what
        → search.files.stamps ≡ with_stamps first.stamps (info_stamps t (info_in held t (stamps_there loaded first) (unread_paths first (wanted t search.dirs.places))) (unread_paths first (wanted t search.dirs.places)))
        → StampTheSame (stamps_there loaded search.files) (stamps_there loaded first ++ stamps_at held t (unread_paths first (wanted t search.dirs.places)))
        → HaveSameIds (ids_there loaded search.files) (ids_there loaded first ++ ids_at t (unread_paths first (wanted t search.dirs.places)))
        → search.files.begun ≡ first.begun + length (opened_keys t (ids_there loaded first) (unread_paths first (wanted t search.dirs.places)))
        → lacks_one held (opened_keys t (ids_there loaded first) (unread_paths first (wanted t search.dirs.places))) ≡ false → HasRead scope held t loaded search
    has_read held info stamps stamped ids begun lacks =
        let places = search.dirs.places in
        let count = ap length (keys_are places) in
        record {
          info = judged_agrees scope what (analysis_at search.files.table) judges (info_in held t loaded (wanted t places)) (wanted t places) (rw (stamps_first, paths_are places) at info);
          stamps = stamps
              ∙ ap (λ l. with_stamps l (info_stamps t (info_in held t (stamps_there loaded first) paths) paths)) empty.stamps
              ∙ ap (λ l. with_stamps [] (info_stamps t (info_in held t l paths) paths)) stamps_first
              ∙ ap (λ paths. with_stamps [] (info_stamps t (info_in held t loaded paths) paths)) (paths_are places);
          stamped = subst (λ l. StampTheSame (stamps_there loaded search.files) l)
              (ap (λ l. l ++ stamps_at held t paths) stamps_first ∙ ap (λ paths. loaded ++ stamps_at held t paths) (paths_are places)) stamped;
          ids = subst (λ l. HaveSameIds (ids_there loaded search.files) l)
              (ap (λ l. ids_of l ++ ids_at t paths) stamps_first ∙ ap (λ paths. ids_of loaded ++ ids_at t paths) (paths_are places)) ids;
          begun = omega (arith, begun, empty.begun, count);
          none_lacks = ap (lacks_one held) (sym (keys_are places)) ∙ lacks;
        }

    pub known_read : (known : Option Contents)
        → IfKnown known (λ held. AgreeOn (unread_paths first (wanted t search.dirs.places)) (info_in held t (stamps_there loaded first) (unread_paths first (wanted t search.dirs.places))) what)
        → IfKnown known (λ held. search.files.stamps
        ≡ with_stamps first.stamps (info_stamps t (info_in held t (stamps_there loaded first) (unread_paths first (wanted t search.dirs.places))) (unread_paths first (wanted t search.dirs.places))))
        → IfKnown known (λ held. StampTheSame (stamps_there loaded search.files) (stamps_there loaded first ++ stamps_at held t (unread_paths first (wanted t search.dirs.places))))
        → HaveSameIds (ids_there loaded search.files) (ids_there loaded first ++ ids_at t (unread_paths first (wanted t search.dirs.places)))
        → search.files.begun ≡ first.begun + length (opened_keys t (ids_there loaded first) (unread_paths first (wanted t search.dirs.places)))
        → IfKnown known (λ held. lacks_one held (opened_keys t (ids_there loaded first) (unread_paths first (wanted t search.dirs.places))) ≡ false)
        → IfKnown known (λ held. HasRead scope held t loaded search)
    known_read None info stamps stamped ids begun lacks = tt
    known_read (Some held) info stamps stamped ids begun lacks = has_read held info stamps stamped ids begun lacks

-- ---- with the conf files

module _ (scope : Scope) (t : Nodes) (loaded : List Stamp) (conf : Conf) where
  places_are : (held : Contents) → IsConfOf (conf_of scope) conf held t → places scope t conf.dirs ≡ places_in scope held t
  unfolding places_in conf_in
  places_are held is = ap (places scope t) is.dirs

  absent_are : (held : Contents) → IsConfOf (conf_of scope) conf held t → absent t conf.dirs ≡ absent t (conf_in scope held t).dirs
  unfolding conf_in
  absent_are held is = ap (absent t) is.dirs

  keys_in : (held : Contents) → IsConfOf (conf_of scope) conf held t → opened_wanted t loaded (places scope t conf.dirs) ≡ wanted_keys scope held t loaded
  unfolding wanted_keys wanted_in
  keys_in held is = ap (opened_wanted t loaded) (places_are held is)

  pub wanted_keys_are : (known : Option Contents) → IfKnown known (λ held. IsConfOf (conf_of scope) conf held t)
      → IfKnown known (λ held. opened_wanted t loaded (places scope t conf.dirs) ≡ wanted_keys scope held t loaded)
  wanted_keys_are known is = known_then known _ _ keys_in is

  pub all_conf : (known : Option Contents) → IfKnown known (λ held. IsConfOf (conf_of scope) conf held t) → IfKnown known (λ held. conf_lacks (conf_of scope) held t ≡ false)
  all_conf known is = known_then known _ _ (λ held (is : IsConfOf (conf_of scope) conf held t). is.all_held) is

  -- the search of a tree for the directories of its conf files
  pub searched : (known : Option Contents) (search : Search) → IfKnown known (λ held. IsConfOf (conf_of scope) conf held t) → search.conf ≡ conf → search.dirs.places ≡ places scope t conf.dirs
      → search.dirs.absent ≡ absent t conf.dirs → IfKnown known (λ held. HasRead scope held t loaded search) → IfKnown known (λ held. IsSearched scope held t loaded search)
  searched None search is same there absent_is read = tt
  searched (Some held) search is same there absent_is read = record {
    conf = subst (λ (x : Conf). IsConfOf (conf_of scope) x held t) (sym same) is;
    places = there ∙ places_are held is;
    absent_is = absent_is ∙ absent_are held is;
    read = read;
  }

  pub image_searched : {E : Type 0} (known : Option Contents) (r : Result Search E) → IfKnown known (λ held. IsConfOf (conf_of scope) conf held t) → IfOk r (λ search. search.conf ≡ conf)
      → IfOk r (λ search. search.dirs.places ≡ places scope t conf.dirs) → IfOk r (λ search. search.dirs.absent ≡ absent t conf.dirs) → IfOk r (λ search. IfKnown known (λ held. HasRead scope held t loaded search))
      → IfOk r (λ search. IfKnown known (λ held. IsSearched scope held t loaded search))
  image_searched known (Ok search) is same there absent_is read = searched known search is same there absent_is read
  image_searched known (Err fault) is same there absent_is read = tt
