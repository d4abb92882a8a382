-- The results of an update's search, part by part.
use Rattle.std.proofs.Common.{◌≡◌, ◌≤◌, ◌<◌, if◌then◌else◌, nat_lt, ◌+◌, ◌||◌, ◌&&◌, ◌++◌, ℕ, Bool, true, false, not, refl, List, [], length, ap, sym, subst, ◌∙◌, filter, arith}
use Rattle.std.proofs.lemmas.Bool.{or_left, or_right}
use Rattle.std.proofs.lemmas.List.Elements.{filter_map-append}
use Rattle.std.proofs.lemmas.List.Sums.{fold-append}
use Rattle.std.specs.List.{filter_map}
use Rattle.std.specs.Map.{keys_of}
use Rattle.cache_entries.proofs.NoOtherFiles.{found_agrees}
use Rattle.place_libraries.proofs.NoOtherFiles.{bests_agree}
use Rattle.place_libraries.specs.Best.{bests_of}
use Rattle.cache_entries.specs.Entries as entries
use Rattle.aux_cache.specs.Stamps.{put}
use Rattle.aux_cache.specs.declared.stamps.Stamp.{Stamp}
use Rattle.elf_dynamic.specs.Begun.{lacks_one}
use Rattle.hwcap_dirs.specs.declared.kinds.Scope.{Scope}
use Rattle.lib_types.proofs.SortedPairs.{by_test}
use Rattle.string_pool.proofs.Members.{AreSorted, is_in, kept_in}
use Rattle.file_table.proofs.Unread.{unread_sorted}
use Rattle.file_table.specs.Analyses.{AgreeOn, Analyses, KeepsAnalyses}
use Rattle.string_pool.specs.Order.{ascending}
use Rattle.library_files.specs.Search.{dangling, reached, wanted}
use Rattle.file_table.specs.Table.{analysis_at}
use Rattle.planned_tree.specs.Search.{IsSearchedAlike}
use Rattle.soname_links.proofs.NoOtherFiles.{blocked_agree, links_agree, mixed_agree}
use Rattle.soname_links.specs.Apply.{nodes_with}
use Rattle.soname_links.specs.Marks.{blocked, mixed}
use Rattle.soname_links.specs.Plan.{links, with_links}
use Rattle.image_tree.specs.declared.tree.TheConstants.{NODES_MAX}
use Rattle.file_stamps.specs.Opened.{HaveSameIds, ids_at, ids_of, opened_keys}
use Rattle.file_stamps.specs.Info.{info_in, info_stamps}
use Rattle.file_stamps.specs.Stamped.{StampTheSame, id_at, stamp_by, stamps_at, with_stamps}
use Rattle.file_stamps.specs.State.{ids_there, stamps_there, unread_paths}
use Rattle.tree_face.specs.Store.{Contents}
use Rattle.image_tree.specs.Tree.{Nodes}
use Rattle.library_search.proofs.FilesAgree.{HaveSameFiles, id_by, key_by, reached_sorted, rows_only, skips_are, unread_are}
use Rattle.library_search.proofs.Judged.{judged_same}
use Rattle.library_search.proofs.KeysBegun.{keys_counted, then_keys}
use Rattle.library_search.proofs.Limits.{over}
use Rattle.library_search.proofs.InfoBoth.{info_after, info_front, stamps_agree}
use Rattle.library_search.proofs.StampsAgree.{keys_alike, keys_same}
use Rattle.library_search.specs.After.{opened_after}
use Rattle.library_search.specs.Begun.{after_keys, has_too_many_nodes, ids_wanted, lacks_wanted, opened_in, opened_wanted, stamps_wanted, wanted_keys}
use Rattle.library_search.specs.declared.finding.Found.{Found}
use Rattle.library_search.specs.declared.search.Search.{Search}
use Rattle.ldso_conf.specs.Reading.{IsConfOf}
use Rattle.ldso_conf.specs.declared.kinds.Conf.{Conf}
use Rattle.library_search.specs.Ldconfig.{after_in, best_libraries, conf_of, entries_in, links_in, planned_in, reached_in, info_files, info_wanted, stamps_in, wanted_in}
use Rattle.library_search.specs.Judged.{judged}
use Rattle.library_search.specs.Found.{HasTooManyNodes, IsFound, IsSearched}
use Rattle.library_search.specs.Stages.{HasFollowed, IsPlannedFor, IsSearchOf, info_found, opened_planned, planned_by}
use Rattle.update_report.specs.Skips.{skip_at}
use Rattle.aux_cache.proofs.Back.{not_below}

module _ (scope : Scope) (held : Contents) (t : Nodes) (loaded : List Stamp) (search : Search) (s : IsSearched scope held t loaded search) where
  abbrev table : Analyses
  table = analysis_at search.files.table

  -- the analyses of the files with library names, as the links are planned for them
  abbrev info : Analyses
  info = judged scope (info_wanted scope held t loaded)

  pub wanted_are : wanted t search.dirs.places ≡ wanted_in scope held t
  unfolding wanted_in
  wanted_are = ap (wanted t) s.places

  info_are : info_found held t loaded search.dirs.places ≡ info_wanted scope held t loaded
  unfolding info_wanted
  info_are = ap (info_in held t loaded) wanted_are

  pub agree_wanted : AgreeOn (wanted t search.dirs.places) (judged scope (info_wanted scope held t loaded)) (analysis_at search.files.table)
  agree_wanted = subst (λ (w : Analyses). AgreeOn (wanted t search.dirs.places) (judged scope w) (analysis_at search.files.table)) info_are s.read.info

  first_stamps : search.files.stamps ≡ with_stamps [] (info_stamps t (info_wanted scope held t loaded) (wanted_in scope held t))
  first_stamps =
      s.read.stamps
      ∙ ap (λ (w : Analyses). with_stamps [] (info_stamps t w (wanted t search.dirs.places))) info_are
      ∙ ap (λ paths. with_stamps [] (info_stamps t (info_wanted scope held t loaded) paths)) wanted_are

  stamped_are : StampTheSame (loaded ++ search.files.stamps) (stamps_wanted scope held t loaded)
  unfolding stamps_wanted
  stamped_are = subst (λ paths. StampTheSame (loaded ++ search.files.stamps) (loaded ++ stamps_at held t paths)) wanted_are s.read.stamped

  ids_are : HaveSameIds (ids_there loaded search.files) (ids_wanted scope held t loaded)
  unfolding ids_wanted
  ids_are = subst (λ paths. HaveSameIds (ids_there loaded search.files) (ids_of loaded ++ ids_at t paths)) wanted_are s.read.ids

  keys_are : opened_wanted t loaded search.dirs.places ≡ wanted_keys scope held t loaded
  unfolding wanted_keys
  keys_are = ap (opened_keys t (ids_of loaded)) wanted_are

  begun_is : search.files.begun ≡ length (wanted_keys scope held t loaded)
  begun_is = s.read.begun ∙ ap length keys_are

  pub none_lacks : lacks_wanted scope held t loaded ≡ false
  none_lacks = ap (λ b. b || lacks_one held (wanted_keys scope held t loaded)) s.conf.all_held ∙ ap (lacks_one held) (sym keys_are) ∙ s.read.none_lacks

  pub links_are : links (analysis_at search.files.table) t search.dirs.places ≡ links_in scope held t loaded
  unfolding links_in
  links_are = links_agree t info table search.dirs.places agree_wanted ∙ ap (links info t) s.places

  pub tree_is : with_links t (links (analysis_at search.files.table) t search.dirs.places) ≡ planned_in scope held t loaded
  unfolding planned_in
  tree_is = ap (with_links t) links_are

  pub few_nodes : nodes_with t (links (analysis_at search.files.table) t search.dirs.places) ≤ NODES_MAX → has_too_many_nodes scope held t loaded ≡ false
  few_nodes few = rw (← links_are) (not_below NODES_MAX (nodes_with t (links table t search.dirs.places)) few)

  pub many_nodes : (nodes : ℕ) → nodes ≡ nodes_with t (links (analysis_at search.files.table) t search.dirs.places) → NODES_MAX < nodes → has_too_many_nodes scope held t loaded ≡ true
  many_nodes nodes e more = rw (← links_are) (over NODES_MAX (nodes_with t (links table t search.dirs.places)) (omega (arith, more, e)))

  pub too_large : (nodes : ℕ) → nodes ≡ nodes_with t (links (analysis_at search.files.table) t search.dirs.places) → NODES_MAX < nodes → HasTooManyNodes scope held t loaded nodes
  too_large nodes e more = record { none_lacks = none_lacks; many = many_nodes nodes e more; nodes_are = e ∙ ap (nodes_with t) links_are }

  module _ (is : IsSearchOf scope t search) (new : Nodes) (new_is : new ≡ with_links t (planned_by search t)) where
    only : (path : List ℕ) → is_in (keys_of search.files.table) path ≡ true → is_in (wanted t search.dirs.places) path ≡ true
    only = rows_only t search.dirs.places search.files.table is.rows

    pub is_planned : new ≡ planned_in scope held t loaded
    is_planned = new_is ∙ tree_is

    pub reached_are : reached new search.dirs.places ≡ reached_in scope held t loaded
    unfolding reached_in
    reached_are = ap (λ n. reached n search.dirs.places) is_planned ∙ ap (reached (planned_in scope held t loaded)) s.places

    abbrev there : List Stamp
    there = stamps_there loaded search.files

    -- the link targets that weren't read
    abbrev following : List (List ℕ)
    following = unread_paths search.files (reached new search.dirs.places)

    after_sorted : AreSorted following
    after_sorted = unread_sorted table (reached new search.dirs.places) (reached_sorted new search.dirs.places)

    others_are : following ≡ filter (λ path. not (is_in (wanted t search.dirs.places) path)) (reached new search.dirs.places)
    others_are = unread_are search.files.table (wanted t search.dirs.places) is.all only (reached new search.dirs.places)

    paths_are : following ≡ after_in scope held t loaded
    paths_are =
        others_are
        ∙ ap (λ paths. filter (λ path. not (is_in (wanted t search.dirs.places) path)) paths) reached_are
        ∙ ap (λ paths. filter (λ path. not (is_in paths path)) (reached_in scope held t loaded)) wanted_are

    -- the same identities have stamps
    opened_are : opened_keys new (ids_there loaded search.files) following ≡ opened_keys new (ids_wanted scope held t loaded) following
    opened_are = keys_alike new (ids_there loaded search.files) (ids_wanted scope held t loaded) following after_sorted ids_are

    after_are : HaveSameFiles t new → opened_after loaded search.files new search.dirs ≡ after_keys scope held t loaded
    unfolding after_keys
    after_are files =
        opened_are
        ∙ keys_same t new (id_by t new files) (key_by t new files) (ids_wanted scope held t loaded) following after_sorted
        ∙ ap (opened_keys t (ids_wanted scope held t loaded)) paths_are

    -- ---- the analyses of files

    info_first : AgreeOn (wanted_in scope held t) (info_files scope held t loaded) (info_wanted scope held t loaded)
    unfolding info_files info_wanted
    info_first path among = sym (info_front held t loaded (wanted_in scope held t) (after_in scope held t loaded) path among)

    -- the files that are read first
    pub one_agrees : (after : Analyses) → KeepsAnalyses table after → AgreeOn (wanted t search.dirs.places) (judged scope (info_files scope held t loaded)) after
    one_agrees after keeps path among =
        keeps path (is.all path among) ∙ agree_wanted path among
        ∙ judged_same scope (info_files scope held t loaded) (info_wanted scope held t loaded) path (info_first path (subst (λ (paths : List (List ℕ)). is_in paths path ≡ true) wanted_are among))

    -- the link targets
    info_next : IsSearchedAlike t new → AgreeOn following (info_files scope held t loaded) (info_in held new there following)
    unfolding info_files stamps_wanted
    info_next alike path among =
        info_after held t loaded (wanted_in scope held t) following new alike there stamped_are path (not_wanted path among)
        ∙ ap (λ paths. info_in held t loaded (wanted_in scope held t ++ paths) path) paths_are
      where
        kept : (a b : Bool) → (not a && b) ≡ true → a ≡ false
        kept true b h = absurd (cc)
        kept false b h = refl

        not_wanted : (path : List ℕ) → is_in following path ≡ true → is_in (wanted_in scope held t) path ≡ false
        not_wanted path among =
            ap (λ paths. is_in paths path) (sym wanted_are)
            ∙ kept (is_in (wanted t search.dirs.places) path) (is_in (reached new search.dirs.places) path)
            (sym (kept_in (λ path. not (is_in (wanted t search.dirs.places) path)) path (reached new search.dirs.places)) ∙ ap (λ paths. is_in paths path) (sym others_are) ∙ among)

    pub other_agrees : IsSearchedAlike t new → (after : Analyses) → KeepsAnalyses (analysis_at search.files.table) after
        → AgreeOn following (judged scope (info_in held new there following)) after → AgreeOn (reached new search.dirs.places) (judged scope (info_files scope held t loaded)) after
    other_agrees alike after keeps more path among = by_test (is_in (wanted t search.dirs.places) path)
        (λ e. one_agrees after keeps path e)
        (λ e.
        let left : is_in following path ≡ true =
        ap (λ paths. is_in paths path) others_are
        ∙ kept_in (λ path. not (is_in (wanted t search.dirs.places) path)) path (reached new search.dirs.places)
        ∙ ap (λ b. not b && is_in (reached new search.dirs.places) path) e ∙ among in
        more path left ∙ judged_same scope (info_files scope held t loaded) (info_in held new there following) path (info_next alike path left))

    stamps_are : IsSearchedAlike t new → (stamps : List Stamp) → stamps ≡ with_stamps search.files.stamps (info_stamps new (info_in held new there following) following)
        → stamps ≡ stamps_in scope held t loaded
    unfolding stamps_in
    stamps_are alike stamps e =
        let first = info_stamps t (info_files scope held t loaded) (wanted_in scope held t) in
        e
        ∙ ap (λ l. with_stamps l (info_stamps new (info_in held new there following) following))
        (first_stamps ∙ ap (λ l. with_stamps [] l) (stamps_agree t t (λ path. refl) (info_files scope held t loaded) (info_wanted scope held t loaded) (wanted_in scope held t) info_first))
        ∙ ap (λ l. with_stamps (with_stamps [] first) l)
        (stamps_agree t new (id_by t new alike.files) (info_files scope held t loaded) (info_in held new there following) following (info_next alike)
        ∙ ap (info_stamps t (info_files scope held t loaded)) paths_are)
        ∙ sym (fold-append put [] first (info_stamps t (info_files scope held t loaded) (after_in scope held t loaded)))
        ∙ ap (λ l. with_stamps [] l) (sym (filter_map-append (λ path. stamp_by (id_at t path) (info_files scope held t loaded path)) (wanted_in scope held t) (after_in scope held t loaded)))

  -- the keys of the link targets that are opened
  pub planned_are : IsSearchOf scope t search → HaveSameFiles t (with_links t (planned_by search t)) → opened_planned loaded search t ≡ then_keys scope held t loaded
  planned_are is files =
      let new = with_links t (planned_by search t) in
      ap (λ plan. if nat_lt NODES_MAX (nodes_with t plan) then [] else opened_after loaded search.files new search.dirs) links_are
      ∙ ap (λ keys. if has_too_many_nodes scope held t loaded then [] else keys) (after_are is new refl files)

  module _ (is : IsSearchOf scope t search) (found : Found) (new : Nodes) (p : IsPlannedFor loaded search t found new) (f : HasFollowed scope held loaded search found new) where
    abbrev after : Analyses
    after = analysis_at found.search.files.table

    targets : opened_after loaded search.files new search.dirs ≡ after_keys scope held t loaded
    targets = after_are is new p.tree_is (p.alike.files)

    none_after : lacks_one held (after_keys scope held t loaded) ≡ false
    none_after = ap (lacks_one held) (sym targets) ∙ f.none_lacks

    opened_is : found.search.files.begun ≡ opened_in scope held t loaded
    opened_is = let keys = ap length targets in omega (arith, begun_is, p.opened, keys)

    -- the files of the table
    among : (path : List ℕ) → is_in (keys_of found.search.files.table) path ≡ true → (is_in (wanted t search.dirs.places) path || is_in (reached new search.dirs.places) path) ≡ true
    among path there = by_test (is_in (keys_of search.files.table) path)
        (λ e. or_left (is_in (wanted t search.dirs.places) path) (is_in (reached new search.dirs.places) path) (only is new p.tree_is path e))
        (λ e. or_right (is_in (wanted t search.dirs.places) path) (is_in (reached new search.dirs.places) path) (sym (ap (λ b. b || is_in (reached new search.dirs.places) path) e) ∙ p.only path there))

    pub is_found : IsFound scope held t loaded found new
    unfolding entries_in best_libraries
    is_found =
        let what = judged scope (info_files scope held t loaded) in
        let here : found.search.dirs.places ≡ search.dirs.places = ap (λ d. d.places) p.dirs in
        let new_are : new ≡ planned_in scope held t loaded = is_planned is new p.tree_is in
        let one = one_agrees is new p.tree_is after p.kept in
        let other = other_agrees is new p.tree_is p.alike after p.kept f.info in
        let one_new : AgreeOn (wanted new search.dirs.places) what after =
        subst (λ (paths : List (List ℕ)). AgreeOn paths what after) (sym p.settled.files) one in
        record {
          conf = subst (λ (c : Conf). IsConfOf (conf_of scope) c held t) (sym p.conf) s.conf;
          places = here ∙ s.places;
          absent_is = ap (λ d. d.absent) p.dirs ∙ s.absent_is;
          plan = p.plan ∙ links_are;
          tree_is = new_are;
          blocked_is = p.blocked_is ∙ blocked_agree t info table search.dirs.places agree_wanted ∙ ap (blocked info t) s.places;
          mixed_is = p.mixed_is ∙ mixed_agree t info table search.dirs.places agree_wanted ∙ ap (mixed info t) s.places;
          dangling_is = p.dangling_is ∙ ap (λ n. dangling n search.dirs.places) new_are ∙ ap (dangling (planned_in scope held t loaded)) s.places;
          entries_are = ap (entries.found after new) here ∙ found_agrees new what after search.dirs.places one_new other
              ∙ ap (λ n. entries.found what n search.dirs.places) new_are ∙ ap (entries.found what (planned_in scope held t loaded)) s.places;
          bests_are = ap (bests_of after new) here ∙ bests_agree new what after search.dirs.places one_new
              ∙ ap (λ n. bests_of what n search.dirs.places) new_are ∙ ap (bests_of what (planned_in scope held t loaded)) s.places;
          skips_are = skips_are what found.search.files.table (wanted t search.dirs.places) (reached new search.dirs.places) one other among
              ∙ ap (λ paths. filter_map (skip_at what) (ascending (paths ++ reached new search.dirs.places))) wanted_are
              ∙ ap (λ paths. filter_map (skip_at what) (ascending (wanted_in scope held t ++ paths))) (reached_are is new p.tree_is);
          stamps = stamps_are is new p.tree_is p.alike found.search.files.stamps f.stamps;
          opened = opened_is;
          none_lacks = none_lacks;
          few = few_nodes p.few;
          none_after = none_after;
          counted = keys_counted scope held t loaded none_lacks (few_nodes p.few) none_after;
        }
