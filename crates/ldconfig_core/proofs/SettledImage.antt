-- The image with the planned links and the stamps of its libraries is settled.
use Rattle.std.proofs.Common.{◌≡◌, ◌++◌, ℕ, Bool, true, false, nat_lt, not, List, [], ◌∷◌, length, refl, ap, sym, subst, ◌∙◌, filter, None, arith}
use Rattle.std.specs.List.{filter_map, list_any}
use Rattle.std.specs.Str.{bytes_eq}
use Rattle.aux_cache.specs.AuxText.{aux_text}
use Rattle.aux_cache.specs.declared.stamps.Stamp.{Stamp}
use Rattle.cache_entries.specs.Entries.{AreEntriesOf, found}
use Rattle.cache_writer.specs.CacheText.{cache_text}
use Rattle.cache_layout.specs.declared.limits.TheConstants.{ENTRIES_MAX}
use Rattle.file_stamps.specs.Files.{what_is}
use Rattle.elf_dynamic.specs.Begun.{key_in, lacks_one}
use Rattle.hwcap_dirs.specs.Places.{places}
use Rattle.hwcap_dirs.specs.declared.kinds.Scope.{Scope}
use Rattle.hwcap_dirs.specs.declared.kinds.Scope.TheVariants.{Image, Only, Root}
use Rattle.ldso_conf.specs.Reading.{conf_lacks, is_missing, reading, reading_of}
use Rattle.lib_types.specs.declared.entry.Entry.{Entry}
use Rattle.file_table.specs.Analyses.{Analyses}
use Rattle.string_pool.specs.Order.{ascending}
use Rattle.library_files.specs.Search.{reached, wanted}
use Rattle.planned_tree.proofs.Agree.{agree}
use Rattle.planned_tree.specs.Search.{IsSearchedAlike}
use Rattle.soname_links.specs.Apply.{nodes_with}
use Rattle.link_plan.specs.declared.kinds.Planned.{Planned}
use Rattle.soname_links.specs.Plan.{links, with_links}
use Rattle.soname_links.specs.Settled.{IsSettled}
use Rattle.file_stamps.proofs.Truth.{same_in, same_over, true_in}
use Rattle.file_stamps.specs.Info.{info_stamps}
use Rattle.file_stamps.specs.Opened.{ids_at, opened_keys}
use Rattle.file_stamps.specs.Stamped.{AreSame, AreTrue, content_of, id_at, stamp_by, with_stamps}
use Rattle.image_tree.specs.declared.node.Id.{Id}
use Rattle.image_tree.specs.declared.tree.TheConstants.{NODES_MAX}
use Rattle.tree_face.specs.Store.{Contents}
use Rattle.image_tree.specs.Tree.{Nodes, IsTree, node_at}
use Rattle.library_search.proofs.FilesAgree.{content_same, id_same, key_same, what_same}
use Rattle.library_search.proofs.Reliable.{after_in_order, after_lack, info_is, stamps_true, wanted_in_order, wanted_is, wanted_lack}
use Rattle.library_search.proofs.StampsAgree.{ids_there_same, keys_same}
use Rattle.ldconfig_core.proofs.OneText.{one_entries}
use Rattle.library_search.specs.Begun.{after_keys, has_too_many_nodes, wanted_keys}
use Rattle.library_search.specs.Judged.{judged}
use Rattle.library_search.specs.Ldconfig.{after_in, conf_in, conf_of, entries_in, library_paths, links_in, places_in, planned_in, reached_in, info_files, info_wanted, stamps_in, wanted_in}
use Rattle.ldconfig_core.specs.Outcome.{Lacking, TooLarge, TooMany, Writes, first_refusal, is_too_long, manifest_with, new_manifest, size_of, update_outcome}
use Rattle.image_session.specs.Session.{Loaded}
use Rattle.ldconfig_core.specs.Settled.{AreCachesAgain, AreSettled}
use Rattle.ldconfig_core.specs.Stages.{stored_image}
use Rattle.ldconfig_core.specs.Texts.{AreTextsOf, UpdateTexts}
use Rattle.aux_cache.proofs.Back.{not_below}

-- if an update writes, no condition of a refusal holds
none_holds : (conf wanted nodes files text entries : Bool) (m n size count : ℕ)
    → first_refusal ((conf, Lacking) ∷ (wanted, Lacking) ∷ (nodes, TooLarge m 0) ∷ (files, Lacking) ∷ (text, TooLarge n size) ∷ (entries, TooMany count) ∷ []) ≡ Writes
    → (conf ≡ false) × ((wanted ≡ false) × ((files ≡ false) × (entries ≡ false)))
none_holds true wanted nodes files text entries m n size count h = absurd (cc)
none_holds false true nodes files text entries m n size count h = absurd (cc)
none_holds false false true files text entries m n size count h = absurd (cc)
none_holds false false false true text entries m n size count h = absurd (cc)
none_holds false false false false true entries m n size count h = absurd (cc)
none_holds false false false false false true m n size count h = absurd (cc)
none_holds false false false false false false m n size count h = (refl, (refl, (refl, refl)))

-- if an update of an image writes no manifest, it has planned no link, and the image wasn't edited
pub unwritten : (held : Contents) (s : Loaded) → new_manifest Image held s ≡ None → planned_in Image held s.tree s.stamps ≡ s.tree
unfolding new_manifest planned_in
unwritten held s h = by s.edited (links_in Image held s.tree s.stamps) refl h
  where
    by : (edited : Bool) (plan : List Planned) → links_in Image held s.tree s.stamps ≡ plan → manifest_with Image edited (planned_in Image held s.tree s.stamps) plan ≡ None
        → with_links s.tree (links_in Image held s.tree s.stamps) ≡ s.tree
    by true plan e h = absurd (cc)
    by false [] e h = ap (with_links s.tree) e
    by false (planned ∷ plan) e h = absurd (cc)

-- for an unedited tree without planned links no manifest is written
none_with : (scope : Scope) (t : Nodes) → manifest_with scope false t [] ≡ None
none_with Image t = refl
none_with (Root conf) t = refl
none_with (Only dirs) t = refl

module _ (scope : Scope) (held : Contents) (s : Loaded) (new : Nodes) (alike : IsSearchedAlike s.tree new) (put : new ≡ planned_in scope held s.tree s.stamps)
    (still : IsSettled (judged scope (info_wanted scope held s.tree s.stamps)) s.tree (places_in scope held s.tree) new) (tree : IsTree new) where
  abbrev t : Nodes
  t = s.tree

  -- the stamps before the update and those of the update
  abbrev loaded : List Stamp
  loaded = s.stamps

  abbrev made : List Stamp
  made = stamps_in scope held t loaded

  same_conf : conf_in scope held new ≡ conf_in scope held t
  unfolding conf_in reading
  same_conf = ap reading_of (alike.conf (conf_of scope) held)

  same_lacks : conf_lacks (conf_of scope) held new ≡ conf_lacks (conf_of scope) held t
  unfolding conf_lacks
  same_lacks = ap (λ items. list_any is_missing items) (alike.conf (conf_of scope) held)

  same_places : places_in scope held new ≡ places_in scope held t
  unfolding places_in
  same_places = ap (λ r. places scope new r.dirs) same_conf ∙ alike.places scope (conf_in scope held t).dirs

  same_key : (path : List ℕ) → key_in (node_at new path) ≡ key_in (node_at t path)
  same_key path = key_same held t new alike path

  same_wanted : wanted_in scope held new ≡ wanted_in scope held t
  unfolding wanted_in
  same_wanted = ap (wanted new) same_places ∙ still.files

  ids : (path : List ℕ) → id_at new path ≡ id_at t path
  ids path = id_same held t new alike path

  contents : (path : List ℕ) → content_of held new path ≡ content_of held t path
  contents path = content_same held t new alike path

  -- ---- the image with these stamps

  abbrev image : Loaded
  image = stored_image new made

  -- ---- assuming that equal identities imply equal contents

  module _ (are : AreTrue held t loaded) (same : AreSame held t t) where
    same_there : AreSame held new new
    same_there = same_in held t new ids contents same

    made_of : (u : Nodes) → AreSame held t u → AreTrue held u made
    made_of = stamps_true scope held t same loaded are

    made_true : AreTrue held new made
    made_true = made_of new (same_over held t new ids contents same)

    same_what : what_is held new ≡ what_is held t
    same_what = agree (what_is held new) (what_is held t) (what_same held t new alike)

    wanted_info : info_wanted scope held new made ≡ info_wanted scope held t loaded
    wanted_info = wanted_is scope held new same_there made made_true ∙ same_what ∙ sym (wanted_is scope held t same loaded are)

    all_info : info_files scope held new made ≡ info_files scope held t loaded
    all_info = info_is scope held new same_there made made_true ∙ same_what ∙ sym (info_is scope held t same loaded are)

    no_links : links_in scope held new made ≡ []
    unfolding links_in
    no_links =
        ap (λ (w : Analyses). links (judged scope w) new (places_in scope held new)) wanted_info
        ∙ ap (links (judged scope (info_wanted scope held t loaded)) new) same_places ∙ still.none

    stays : planned_in scope held new made ≡ new
    unfolding planned_in
    stays = ap (with_links new) no_links

    same_tree : planned_in scope held new made ≡ planned_in scope held t loaded
    same_tree = stays ∙ put

    same_reached : reached_in scope held new made ≡ reached_in scope held t loaded
    unfolding reached_in
    same_reached = ap (λ n. reached n (places_in scope held new)) same_tree ∙ ap (reached (planned_in scope held t loaded)) same_places

    same_entries : entries_in scope held new made ≡ entries_in scope held t loaded
    unfolding entries_in
    same_entries =
        ap (λ (w : Analyses). found (judged scope w) (planned_in scope held new made) (places_in scope held new)) all_info
        ∙ ap (λ n. found (judged scope (info_files scope held t loaded)) n (places_in scope held new)) same_tree
        ∙ ap (found (judged scope (info_files scope held t loaded)) (planned_in scope held t loaded)) same_places

    same_after : after_in scope held new made ≡ after_in scope held t loaded
    same_after =
        ap (λ paths. filter (λ path. not (list_any (bytes_eq path) paths)) (reached_in scope held new made)) same_wanted
        ∙ ap (λ paths. filter (λ path. not (list_any (bytes_eq path) (wanted_in scope held t))) paths) same_reached

    same_stamps : stamps_in scope held new made ≡ stamps_in scope held t loaded
    unfolding stamps_in
    same_stamps =
        ap (λ (w : Analyses). with_stamps [] (info_stamps new w (library_paths scope held new made))) all_info
        ∙ ap (λ f. with_stamps [] (filter_map f (library_paths scope held new made)))
        (agree (λ path. stamp_by (id_at new path) (info_files scope held t loaded path)) (λ path. stamp_by (id_at t path) (info_files scope held t loaded path))
        (λ path. ap (λ i. stamp_by i (info_files scope held t loaded path)) (ids path)))
        ∙ ap (λ paths. with_stamps [] (info_stamps t (info_files scope held t loaded) (paths ++ after_in scope held new made))) same_wanted
        ∙ ap (λ paths. with_stamps [] (info_stamps t (info_files scope held t loaded) (wanted_in scope held t ++ paths))) same_after

    -- one update misses a content exactly if the other does
    wanted_again : lacks_one held (wanted_keys scope held new made) ≡ lacks_one held (wanted_keys scope held t loaded)
    wanted_again =
        wanted_lack scope held new same_there made made_true
        ∙ ap (λ paths. lacks_one held (opened_keys new [] paths)) same_wanted
        ∙ ap (lacks_one held) (keys_same t new ids same_key [] (wanted_in scope held t) (wanted_in_order scope held t))
        ∙ sym (wanted_lack scope held t same loaded are)

    after_again : lacks_one held (after_keys scope held new made) ≡ lacks_one held (after_keys scope held t loaded)
    after_again =
        let first : List Id = ids_at t (wanted_in scope held t) in
        after_lack scope held new same_there made made_true
        ∙ ap (λ paths. lacks_one held (opened_keys new (ids_at new paths) (after_in scope held new made))) same_wanted
        ∙ ap (λ paths. lacks_one held (opened_keys new (ids_at new (wanted_in scope held t)) paths)) same_after
        ∙ ap (λ seen. lacks_one held (opened_keys new seen (after_in scope held t loaded))) (ids_there_same t new ids same_key (wanted_in scope held t))
        ∙ ap (lacks_one held) (keys_same t new ids same_key first (after_in scope held t loaded) (after_in_order scope held t loaded))
        ∙ sym (after_lack scope held t same loaded are)

    no_manifest : new_manifest scope held image ≡ None
    unfolding new_manifest
    no_manifest = ap (manifest_with scope false (planned_in scope held new made)) no_links ∙ none_with scope (planned_in scope held new made)

    enough : has_too_many_nodes scope held new made ≡ false
    unfolding ascending
    enough = ap (λ plan. nat_lt NODES_MAX (nodes_with new plan)) no_links ∙ not_below NODES_MAX (nodes_with new []) (omega (arith, tree.few))

    still_writes : update_outcome scope held s ≡ Writes → update_outcome scope held image ≡ Writes
    unfolding update_outcome
    still_writes h =
        let none = none_holds (conf_lacks (conf_of scope) held t) (lacks_one held (wanted_keys scope held t loaded)) (has_too_many_nodes scope held t loaded) (lacks_one held (after_keys scope held t loaded))
        (is_too_long (new_manifest scope held s)) (nat_lt ENTRIES_MAX (length (entries_in scope held t loaded))) (nodes_with t (links_in scope held t loaded)) (length (planned_in scope held t loaded))
        (size_of (new_manifest scope held s)) (length (entries_in scope held t loaded)) h in
        let conf_held : conf_lacks (conf_of scope) held new ≡ false = same_lacks ∙ none.0 in
        let wanted_held : lacks_one held (wanted_keys scope held new made) ≡ false = wanted_again ∙ none.1.0 in
        let files_held : lacks_one held (after_keys scope held new made) ≡ false = after_again ∙ none.1.1.0 in
        let entries_few : nat_lt ENTRIES_MAX (length (entries_in scope held new made)) ≡ false = ap (λ found. nat_lt ENTRIES_MAX (length found)) same_entries ∙ none.1.1.1 in
        rw (conf_held, wanted_held, enough, files_held, no_manifest, entries_few) refl

    caches_again : (texts again : UpdateTexts) → AreTextsOf scope held s texts → AreTextsOf scope held image again → AreCachesAgain texts again
    caches_again texts again are is =
        let of_tree : AreEntriesOf (entries_in scope held t loaded) is.entries = subst (λ (found : List Entry). AreEntriesOf found is.entries) same_entries is.are in
        record {
          manifest = is.manifest_is ∙ no_manifest;
          cache = is.cache_is ∙ ap cache_text (one_entries scope held s is.entries are.entries of_tree are.are) ∙ sym are.cache_is;
          aux = is.aux_is ∙ ap aux_text same_stamps ∙ sym are.aux_is;
        }

    put_before : (scope : Scope) → new ≡ planned_in scope held s.tree s.stamps → scope ≡ Image → new_manifest scope held s ≡ None → new ≡ s.tree
    put_before Image put e h = put ∙ unwritten held s h
    put_before (Root conf) put e h = absurd (cc)
    put_before (Only dirs) put e h = absurd (cc)

    pub are_settled : AreSettled scope held s (stored_image new (stamps_in scope held s.tree s.stamps))
    are_settled = record {
      conf = same_conf;
      places = same_places;
      wanted = same_wanted;
      no_links = no_links;
      planned = stays;
      reached = same_reached;
      entries = same_entries;
      stamps = same_stamps;
      no_manifest = no_manifest;
      unchanged = put_before scope put;
      ids = ids;
      contents = contents;
      are_true = made_true;
      same = same_there;
      true_too = true_in held t new ids contents;
      true_before = made_of t same;
      outcome = still_writes;
      texts = caches_again;
    }
