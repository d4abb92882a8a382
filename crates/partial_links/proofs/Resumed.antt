-- An update of a tree with a part of its planned links finds what one of the tree finds.
use Rattle.std.proofs.Common.{◌≡◌, ◌++◌, ◌≤◌, ℕ, true, not, List, [], filter, length, refl, ap, sym, subst, ◌∙◌}
use Rattle.std.specs.List.{before_first, filter_map, flat_map, list_any}
use Rattle.std.specs.Option.{option_and_then, option_map, option_or}
use Rattle.std.specs.Str.{bytes_eq}
use Rattle.aux_cache.specs.Stamps.{AreRecordable, stamp_of}
use Rattle.aux_cache.specs.declared.stamps.Stamp.{Stamp}
use Rattle.cache_entries.specs.Entries.{found}
use Rattle.cache_entries.specs.Walk.{walk}
use Rattle.elf_dynamic.specs.Begun.{key_in}
use Rattle.file_stamps.specs.Files.{what_is}
use Rattle.file_stamps.specs.Opened.{ids_at, ids_of, opened_keys}
use Rattle.file_stamps.specs.Info.{info_by, info_in, info_stamps}
use Rattle.file_stamps.specs.Stamped.{id_at, of_stamp, stamp_by, stamp_for, stamps_at, with_stamps}
use Rattle.file_table.specs.Analyses.{Analyses}
use Rattle.file_table.specs.Analyses as analyses
use Rattle.hwcap_dirs.proofs.Reals.{places_are_dirs}
use Rattle.hwcap_dirs.specs.Places.{are_dirs, places}
use Rattle.hwcap_dirs.specs.declared.kinds.Place.{Place}
use Rattle.hwcap_dirs.specs.declared.kinds.Scope.{Scope}
use Rattle.image_tree.specs.Tree.{Nodes, IsPathSorted, IsTree, node_at}
use Rattle.image_tree.specs.declared.tree.TheConstants.{NODES_MAX}
use Rattle.ldso_conf.specs.Reading.{conf_keys, conf_lacks, is_missing, key_begun, reading, reading_of}
use Rattle.library_files.specs.Search.{reached, wanted}
use Rattle.library_search.proofs.FilesAgree.{content_same, id_same, key_same, what_same}
use Rattle.library_search.proofs.Reliable.{after_in_order, wanted_in_order}
use Rattle.library_search.proofs.StampsAgree.{ids_there_same, keys_same, stamps_same}
use Rattle.library_search.specs.Begun.{after_keys, ids_wanted, wanted_keys}
use Rattle.library_search.specs.Judged.{judged}
use Rattle.library_search.specs.Ldconfig.{after_in, conf_in, conf_of, entries_in, library_paths, links_in, places_in, planned_in, reached_in, info_files, info_wanted, stamps_in, walk_in, wanted_in}
use Rattle.link_plan.specs.declared.kinds.Planned.{Planned}
use Rattle.planned_tree.proofs.Agree.{agree}
use Rattle.planned_tree.specs.Search.{IsSearchedAlike}
use Rattle.soname_links.proofs.Counted.{nodes_counted}
use Rattle.soname_links.specs.Apply.{nodes_with}
use Rattle.soname_links.specs.Plan.{links, with_links}
use Rattle.tree_face.specs.Store.{Contents}
use Rattle.library_search.proofs.Named.{judged_named, info_named}
use Rattle.partial_links.proofs.Rest.{alike_with, plans_rest, same_search}
use Rattle.partial_links.proofs.Whole.{part_tree}
use Rattle.partial_links.specs.Partial.{HasPart, PlansRest, missing}
use Rattle.partial_links.specs.Resumed.{FindsSame}

module _ (scope : Scope) (held : Contents) (t : Nodes) (loaded : List Stamp) (new : Nodes) (tree : IsTree t) (are : AreRecordable loaded) (part : HasPart t (links_in scope held t loaded) new) where
  abbrev info : Analyses
  info = info_wanted scope held t loaded

  abbrev what : Analyses
  what = judged scope info

  abbrev dirs : List Place
  dirs = places_in scope held t

  are_real : are_dirs t dirs ≡ true
  unfolding places_in
  are_real = places_are_dirs scope t (conf_in scope held t).dirs

  named : analyses.HaveNames what
  unfolding info_wanted
  named = judged_named scope info (info_named held t loaded are (wanted_in scope held t))

  planned_are : links_in scope held t loaded ≡ links what t dirs
  unfolding links_in
  planned_are = refl

  part_of : HasPart t (links what t dirs) new
  part_of = subst (λ (plan : List Planned). HasPart t plan new) planned_are part

  -- the tree is one, if the planned tree has room
  pub is_tree : IsPathSorted new → nodes_with t (links_in scope held t loaded) ≤ NODES_MAX → IsTree new
  is_tree sorted few = part_tree what named t new tree sorted dirs are_real (subst (λ (plan : List Planned). nodes_with t plan ≤ NODES_MAX) planned_are few) part_of

  module _ (after : IsTree new) where
    alike : IsSearchedAlike t new
    alike = same_search t new tree after (alike_with what named t new tree after dirs are_real part_of)

    plans : PlansRest what t dirs new
    plans = plans_rest what named t new tree after dirs are_real part_of

    -- ---- the conf files and the places

    same_conf : conf_in scope held new ≡ conf_in scope held t
    unfolding conf_in reading
    same_conf = ap reading_of (alike.conf (conf_of scope) held)

    same_conf_keys : conf_keys (conf_of scope) held new ≡ conf_keys (conf_of scope) held t
    unfolding conf_keys
    same_conf_keys = ap (λ items. flat_map key_begun items) (alike.conf (conf_of scope) held)

    same_lacks : conf_lacks (conf_of scope) held new ≡ conf_lacks (conf_of scope) held t
    unfolding conf_lacks
    same_lacks = ap (λ items. list_any is_missing items) (alike.conf (conf_of scope) held)

    same_places : places_in scope held new ≡ dirs
    unfolding places_in
    same_places = ap (λ r. places scope new r.dirs) same_conf ∙ alike.places scope (conf_in scope held t).dirs

    same_wanted : wanted_in scope held new ≡ wanted_in scope held t
    unfolding wanted_in
    same_wanted = ap (wanted new) same_places ∙ plans.files

    -- ---- what files are said to be

    ids : (path : List ℕ) → id_at new path ≡ id_at t path
    ids path = id_same held t new alike path

    keys : (path : List ℕ) → key_in (node_at new path) ≡ key_in (node_at t path)
    keys path = key_same held t new alike path

    same_info : (paths : List (List ℕ)) → info_in held new loaded paths ≡ info_in held t loaded paths
    same_info paths = agree (info_in held new loaded paths) (info_in held t loaded paths) (λ path.
        let before = before_first (bytes_eq path) paths in
        let stamps = loaded ++ stamps_at held t before in
        ap (λ l. info_by held new (loaded ++ l) path) (stamps_same held t new alike before)
        ∙ ap (λ i. option_or (option_map of_stamp (option_and_then (stamp_of stamps) i)) (what_is held new path)) (ids path)
        ∙ ap (λ w. option_or (option_map of_stamp (stamp_for stamps t path)) w) (what_same held t new alike path))

    same_first : info_wanted scope held new loaded ≡ info
    unfolding info_wanted
    same_first = same_info (wanted_in scope held new) ∙ ap (info_in held t loaded) same_wanted

    -- ---- the links

    links_are : links_in scope held new loaded ≡ links what new dirs
    unfolding links_in
    links_are = ap (λ (w : Analyses). links (judged scope w) new (places_in scope held new)) same_first ∙ ap (links what new) same_places

    rest_is : links_in scope held new loaded ≡ missing new (links_in scope held t loaded)
    rest_is = links_are ∙ plans.rest ∙ ap (missing new) (sym planned_are)

    same_planned : planned_in scope held new loaded ≡ planned_in scope held t loaded
    unfolding planned_in
    same_planned = ap (with_links new) links_are ∙ plans.planned ∙ ap (with_links t) (sym planned_are)

    same_nodes : nodes_with new (links_in scope held new loaded) ≡ nodes_with t (links_in scope held t loaded)
    unfolding planned_in
    same_nodes = nodes_counted (links_in scope held new loaded) new after.sorted ∙ ap length same_planned ∙ sym (nodes_counted (links_in scope held t loaded) t tree.sorted)

    -- ---- all that is found

    same_reached : reached_in scope held new loaded ≡ reached_in scope held t loaded
    unfolding reached_in
    same_reached = ap (λ n. reached n (places_in scope held new)) same_planned ∙ ap (reached (planned_in scope held t loaded)) same_places

    same_after : after_in scope held new loaded ≡ after_in scope held t loaded
    same_after =
        ap (λ paths. filter (λ path. not (list_any (bytes_eq path) paths)) (reached_in scope held new loaded)) same_wanted
        ∙ ap (λ paths. filter (λ path. not (list_any (bytes_eq path) (wanted_in scope held t))) paths) same_reached

    same_paths : library_paths scope held new loaded ≡ library_paths scope held t loaded
    same_paths = ap (λ paths. paths ++ after_in scope held new loaded) same_wanted ∙ ap (λ paths. wanted_in scope held t ++ paths) same_after

    same_files : info_files scope held new loaded ≡ info_files scope held t loaded
    unfolding info_files
    same_files = same_info (library_paths scope held new loaded) ∙ ap (info_in held t loaded) same_paths

    same_entries : entries_in scope held new loaded ≡ entries_in scope held t loaded
    unfolding entries_in
    same_entries =
        ap (λ (w : Analyses). found (judged scope w) (planned_in scope held new loaded) (places_in scope held new)) same_files
        ∙ ap (λ n. found (judged scope (info_files scope held t loaded)) n (places_in scope held new)) same_planned
        ∙ ap (found (judged scope (info_files scope held t loaded)) (planned_in scope held t loaded)) same_places

    same_walk : walk_in scope held new loaded ≡ walk_in scope held t loaded
    unfolding walk_in
    same_walk =
        ap (λ (w : Analyses). walk (judged scope w) (planned_in scope held new loaded) (places_in scope held new)) same_files
        ∙ ap (λ n. walk (judged scope (info_files scope held t loaded)) n (places_in scope held new)) same_planned
        ∙ ap (walk (judged scope (info_files scope held t loaded)) (planned_in scope held t loaded)) same_places

    same_stamps : stamps_in scope held new loaded ≡ stamps_in scope held t loaded
    unfolding stamps_in
    same_stamps =
        ap (λ (w : Analyses). with_stamps [] (info_stamps new w (library_paths scope held new loaded))) same_files
        ∙ ap (λ f. with_stamps [] (filter_map f (library_paths scope held new loaded)))
        (agree (λ path. stamp_by (id_at new path) (info_files scope held t loaded path)) (λ path. stamp_by (id_at t path) (info_files scope held t loaded path))
        (λ path. ap (λ i. stamp_by i (info_files scope held t loaded path)) (ids path)))
        ∙ ap (λ paths. with_stamps [] (info_stamps t (info_files scope held t loaded) paths)) same_paths

    -- ---- the files that are opened

    first_opened : wanted_keys scope held new loaded ≡ wanted_keys scope held t loaded
    unfolding wanted_keys
    first_opened = ap (opened_keys new (ids_of loaded)) same_wanted ∙ keys_same t new ids keys (ids_of loaded) (wanted_in scope held t) (wanted_in_order scope held t)

    same_ids_wanted : ids_wanted scope held new loaded ≡ ids_wanted scope held t loaded
    unfolding ids_wanted
    same_ids_wanted = ap (λ paths. ids_of loaded ++ ids_at new paths) same_wanted ∙ ap (λ l. ids_of loaded ++ l) (ids_there_same t new ids keys (wanted_in scope held t))

    later_opened : after_keys scope held new loaded ≡ after_keys scope held t loaded
    unfolding after_keys
    later_opened =
        ap (λ l. opened_keys new l (after_in scope held new loaded)) same_ids_wanted
        ∙ ap (opened_keys new (ids_wanted scope held t loaded)) same_after
        ∙ keys_same t new ids keys (ids_wanted scope held t loaded) (after_in scope held t loaded) (after_in_order scope held t loaded)

    pub finds_same : FindsSame scope held t loaded new
    finds_same = record {
      conf = same_conf;
      places = same_places;
      wanted = same_wanted;
      info_first = same_first;
      rest = rest_is;
      planned = same_planned;
      reached = same_reached;
      info = same_files;
      entries = same_entries;
      walk = same_walk;
      stamps = same_stamps;
      conf_files = same_conf_keys;
      lacks = same_lacks;
      first_files = first_opened;
      later_files = later_opened;
      ids = ids;
      contents = content_same held t new alike;
      nodes = same_nodes;
    }
