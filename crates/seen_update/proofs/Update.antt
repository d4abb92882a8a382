-- If the paths that an update looks at were seen, the update of the part finds what that of the tree finds.
use Rattle.std.proofs.Common.{◌≡◌, ◌||◌, ◌&&◌, ◌++◌, ◌+◌, ℕ, Bool, true, false, cond, not, filter, List, [], ◌∷◌, length, ap, refl, sym, ◌∙◌}
use Rattle.std.proofs.lemmas.Bool.{or_left}
use Rattle.std.proofs.lemmas.List.Folds.{list_any-append}
use Rattle.std.specs.List.{filter_map}
use Rattle.aux_cache.specs.Stamps.{AreRecordable}
use Rattle.aux_cache.specs.declared.stamps.Stamp.{Stamp}
use Rattle.cache_entries.specs.Entries.{found}
use Rattle.elf_dynamic.specs.Begun.{lacks_one, most_of, until_lacking}
use Rattle.file_stamps.specs.Info.{info_in, info_stamps}
use Rattle.file_stamps.specs.Opened.{ids_at, ids_of, opened_keys}
use Rattle.file_stamps.specs.Stamped.{with_stamps}
use Rattle.file_table.specs.Analyses.{AgreeOn, Analyses, HaveNames}
use Rattle.hwcap_dirs.proofs.Reals.{places_are_dirs}
use Rattle.hwcap_dirs.specs.Places.{absent, are_dirs, places}
use Rattle.hwcap_dirs.specs.declared.kinds.Scope.{Scope}
use Rattle.image_tree.specs.Tree.{Nodes}
use Rattle.ldso_conf.specs.Reading.{Reading, conf_bytes, conf_items, conf_keys, conf_lacks}
use Rattle.library_files.specs.Search.{dangling, reached, wanted}
use Rattle.library_search.proofs.Judged.{judged_agree}
use Rattle.library_search.proofs.Named.{info_named, judged_named}
use Rattle.library_search.specs.Begun.{after_keys, has_too_many_nodes, ids_wanted, lacks_wanted, opened_in, search_bytes, search_keys, update_keys, wanted_keys}
use Rattle.library_search.specs.Judged.{judged}
use Rattle.library_search.specs.Ldconfig.{after_in, best_libraries, conf_in, conf_of, entries_in, info_files, info_wanted, library_files, library_paths, links_in, places_in, planned_in, reached_in, stamps_in, wanted_in}
use Rattle.lib_types.proofs.SortedPairs.{by_test}
use Rattle.place_libraries.specs.Best.{bests_of}
use Rattle.root_folder.specs.Whole.{IsWhole}
use Rattle.seen_conf.proofs.Conf.{conf_bytes_seen, conf_keys_seen, conf_lacks_seen, items_seen, reading_seen}
use Rattle.seen_places.proofs.AfterLinks.{dangling_planned, reached_planned, reached_planned_nodes, wanted_planned}
use Rattle.seen_places.proofs.Each.{all_both}
use Rattle.seen_places.proofs.Entries.{entries_read}
use Rattle.seen_places.proofs.Files.{wanted_nodes, wanted_seen}
use Rattle.seen_places.proofs.Info.{info_seen, stamps_info_seen}
use Rattle.seen_places.proofs.Libraries.{bests_read}
use Rattle.seen_places.proofs.Links.{blocked_read, links_read, mixed_read}
use Rattle.seen_places.proofs.Places.{absent_seen, conf_seen, places_seen}
use Rattle.seen_places.proofs.Planned.{part_planned, wanted_with, whole_planned}
use Rattle.seen_places.specs.Entries.{entries_looked}
use Rattle.seen_places.specs.Looked.{followed_looked, wanted_looked}
use Rattle.seen_tree.proofs.Same.{seen_parts}
use Rattle.seen_tree.specs.Part.{AreSeen, IsPart, IsSeen}
use Rattle.soname_links.specs.Marks.{blocked, mixed}
use Rattle.soname_links.specs.Plan.{links, with_links}
use Rattle.soname_links.specs.Settled.{IsSettled}
use Rattle.string_pool.proofs.Members.{is_in, kept_in}
use Rattle.string_pool.proofs.InByteOrder.{in_ascending}
use Rattle.string_pool.specs.Order.{ascending}
use Rattle.tree_face.specs.Store.{Contents}
use Rattle.update_report.proofs.SkipsOfFiles.{skips_agree}
use Rattle.update_report.specs.Skips.{skip_at}
use Rattle.seen_update.proofs.Opened.{ids_seen, opened_seen}
use Rattle.seen_update.proofs.Reached.{reached_files, seen_before}
use Rattle.seen_update.specs.Alike.{LooksAlike}
use Rattle.seen_update.specs.Looked.{conf_looked, dirs_looked, files_looked, links_looked, sonames_looked, update_looked}

-- what was seen of an update, except for the sonames
pub record AreLooked (scope : Scope) (held : Contents) (t part : Nodes) (loaded : List Stamp) : Type 0 where
  pub conf : AreSeen t part (conf_looked scope held t)
  pub dirs : AreSeen t part (dirs_looked scope held t)
  pub files : AreSeen t part (files_looked scope held t)
  pub links : AreSeen t part (links_looked scope held t loaded)

pub looked_parts : (scope : Scope) (held : Contents) (t part : Nodes) (loaded : List Stamp) → AreSeen t part (update_looked scope held t loaded)
    → AreLooked scope held t part loaded × AreSeen t part (sonames_looked scope held t loaded)
unfolding update_looked
looked_parts scope held t part loaded all =
    let conf = conf_looked scope held t in
    let dirs = dirs_looked scope held t in
    let files = files_looked scope held t in
    let links = links_looked scope held t loaded in
    let sonames = sonames_looked scope held t loaded in
    let four = seen_parts t part (conf ++ dirs ++ files ++ links) sonames all in
    let three = seen_parts t part (conf ++ dirs ++ files) links four.0 in
    let two = seen_parts t part (conf ++ dirs) files three.0 in
    let one = seen_parts t part conf dirs two.0 in
    (record { conf = one.0; dirs = one.1; files = two.1; links = three.1 }, four.1)

module _ (scope : Scope) (held : Contents) (t part : Nodes) (loaded : List Stamp) (whole : IsWhole t) (is : IsPart t part) (recordable : AreRecordable loaded) (seen : AreLooked scope held t part loaded) where
  -- ---- the search directories

  items_are : conf_items (conf_of scope) held part ≡ conf_items (conf_of scope) held t
  items_are = items_seen t part whole is held (conf_of scope) seen.conf

  conf_is : conf_in scope held part ≡ conf_in scope held t
  unfolding conf_in
  conf_is = reading_seen t part whole is held (conf_of scope) seen.conf

  places_are : places_in scope held part ≡ places_in scope held t
  unfolding places_in
  places_are = ap (λ (r : Reading). places scope part r.dirs) conf_is ∙ places_seen t part whole is scope (conf_in scope held t).dirs seen.dirs

  absent_are : absent part (conf_in scope held part).dirs ≡ absent t (conf_in scope held t).dirs
  absent_are =
      ap (λ (r : Reading). absent part r.dirs) conf_is
      ∙ absent_seen t part whole is (conf_in scope held t).dirs (conf_seen t part whole is scope (conf_in scope held t).dirs seen.dirs)

  pub dirs_there : are_dirs t (places_in scope held t) ≡ true
  unfolding places_in
  dirs_there = places_are_dirs scope t (conf_in scope held t).dirs

  -- ---- the files with library names

  wanted_are : wanted_in scope held part ≡ wanted_in scope held t
  unfolding wanted_in
  wanted_are = ap (wanted part) places_are ∙ wanted_seen t part whole is (places_in scope held t) seen.files

  wanted_there : AreSeen t part (wanted_in scope held t)
  unfolding wanted_in
  wanted_there = wanted_nodes t part whole is (places_in scope held t) seen.files

  info_are : AgreeOn (wanted_in scope held t) (info_wanted scope held t loaded) (info_wanted scope held part loaded)
  unfolding info_wanted
  info_are path there = ap (λ paths. info_in held part loaded paths path) wanted_are ∙ info_seen t part held loaded (wanted_in scope held t) wanted_there path there

  abbrev what : Analyses
  what = judged scope (info_wanted scope held t loaded)

  abbrev what_part : Analyses
  what_part = judged scope (info_wanted scope held part loaded)

  agree : AgreeOn (wanted t (places_in scope held t)) (judged scope (info_wanted scope held t loaded)) (judged scope (info_wanted scope held part loaded))
  unfolding wanted_in
  agree = judged_agree scope (info_wanted scope held t loaded) (info_wanted scope held part loaded) (wanted_in scope held t) info_are

  pub named : HaveNames (judged scope (info_wanted scope held t loaded))
  unfolding info_wanted
  named = judged_named scope (info_wanted scope held t loaded) (info_named held t loaded recordable (wanted_in scope held t))

  named_part : HaveNames (judged scope (info_wanted scope held part loaded))
  unfolding info_wanted
  named_part = judged_named scope (info_wanted scope held part loaded) (info_named held part loaded recordable (wanted_in scope held part))

  -- ---- the planned links

  pub links_are : links_in scope held part loaded ≡ links_in scope held t loaded
  unfolding links_in
  links_are = ap (links what_part part) places_are ∙ links_read t part whole is what what_part (places_in scope held t) seen.files agree named_part dirs_there

  blocked_are : blocked (judged scope (info_wanted scope held part loaded)) part (places_in scope held part) ≡ blocked (judged scope (info_wanted scope held t loaded)) t (places_in scope held t)
  blocked_are = ap (blocked what_part part) places_are ∙ blocked_read t part whole is what what_part (places_in scope held t) seen.files agree named_part dirs_there

  mixed_are : mixed (judged scope (info_wanted scope held part loaded)) part (places_in scope held part) ≡ mixed (judged scope (info_wanted scope held t loaded)) t (places_in scope held t)
  mixed_are = ap (mixed what_part part) places_are ∙ mixed_read t part whole is what what_part (places_in scope held t) seen.files agree

  -- the part with the planned links of the tree
  planned_are : planned_in scope held part loaded ≡ with_links part (links_in scope held t loaded)
  unfolding planned_in
  planned_are = ap (with_links part) links_are

  -- ---- the links with library names

  links_seen : AreSeen t part (links_looked scope held t loaded)
  links_seen = seen.links

  reached_are : reached_in scope held part loaded ≡ reached_in scope held t loaded
  unfolding reached_in planned_in links_in
  reached_are =
      ap (λ n. reached n (places_in scope held part)) planned_are
      ∙ ap (reached (with_links part (links_in scope held t loaded))) places_are
      ∙ reached_planned t part whole is what named (places_in scope held t) dirs_there seen.files links_seen

  dangling_are : dangling (planned_in scope held part loaded) (places_in scope held part) ≡ dangling (planned_in scope held t loaded) (places_in scope held t)
  unfolding planned_in links_in
  dangling_are =
      ap (λ n. dangling n (places_in scope held part)) planned_are
      ∙ ap (dangling (with_links part (links_in scope held t loaded))) places_are
      ∙ dangling_planned t part whole is what named (places_in scope held t) dirs_there seen.files links_seen

  -- ---- all library files

  after_are : after_in scope held part loaded ≡ after_in scope held t loaded
  after_are =
      ap (λ paths. filter (λ path. not (is_in paths path)) (reached_in scope held part loaded)) wanted_are
      ∙ ap (filter (λ path. not (is_in (wanted_in scope held t) path))) reached_are

  files_are : library_files scope held part loaded ≡ library_files scope held t loaded
  files_are = ap (λ paths. ascending (paths ++ reached_in scope held part loaded)) wanted_are ∙ ap (λ paths. ascending (wanted_in scope held t ++ paths)) reached_are

  paths_are : library_paths scope held part loaded ≡ library_paths scope held t loaded
  paths_are = ap (λ paths. paths ++ after_in scope held part loaded) wanted_are ∙ ap (λ paths. wanted_in scope held t ++ paths) after_are

  reached_there : AreSeen t part (reached_in scope held t loaded)
  unfolding reached_in planned_in links_in
  reached_there =
      seen_before (links_in scope held t loaded) t part (reached_in scope held t loaded) (reached_files (planned_in scope held t loaded) (places_in scope held t))
      (reached_planned_nodes t part whole is what named (places_in scope held t) dirs_there seen.files links_seen)

  after_there : AreSeen t part (after_in scope held t loaded)
  after_there = left_there (reached_in scope held t loaded) reached_there
    where
      left_there : (paths : List (List ℕ)) → AreSeen t part paths → AreSeen t part (filter (λ path. not (is_in (wanted_in scope held t) path)) paths)
      left_there [] all = tt
      left_there (path ∷ paths) all = by (not (is_in (wanted_in scope held t) path)) all.0 (left_there paths all.1)
        where
          by : (b : Bool) → IsSeen t part path → AreSeen t part (filter (λ path. not (is_in (wanted_in scope held t) path)) paths)
              → AreSeen t part (cond b (path ∷ filter (λ path. not (is_in (wanted_in scope held t) path)) paths) (filter (λ path. not (is_in (wanted_in scope held t) path)) paths))
          by true here rest = (here, rest)
          by false here rest = rest

  all_there : AreSeen t part (library_paths scope held t loaded)
  all_there = all_both (IsSeen t part) (wanted_in scope held t) (after_in scope held t loaded) wanted_there after_there

  all_info : AgreeOn (library_paths scope held t loaded) (info_files scope held t loaded) (info_files scope held part loaded)
  unfolding info_files
  all_info path there = ap (λ paths. info_in held part loaded paths path) paths_are ∙ info_seen t part held loaded (library_paths scope held t loaded) all_there path there

  abbrev all_what : Analyses
  all_what = judged scope (info_files scope held t loaded)

  abbrev all_what_part : Analyses
  all_what_part = judged scope (info_files scope held part loaded)

  all_agree : AgreeOn (library_paths scope held t loaded) (judged scope (info_files scope held t loaded)) (judged scope (info_files scope held part loaded))
  all_agree = judged_agree scope (info_files scope held t loaded) (info_files scope held part loaded) (library_paths scope held t loaded) all_info

  stamps_are : stamps_in scope held part loaded ≡ stamps_in scope held t loaded
  unfolding stamps_in
  stamps_are =
      ap (λ paths. with_stamps [] (info_stamps part (info_files scope held part loaded) paths)) paths_are
      ∙ ap (with_stamps []) (stamps_info_seen t part (info_files scope held t loaded) (info_files scope held part loaded) (library_paths scope held t loaded) all_there all_info)

  -- a library file is one of the search directories, or a link leads to it
  wanted_among : (path : List ℕ) → is_in (wanted_in scope held t) path ≡ true → is_in (library_paths scope held t loaded) path ≡ true
  wanted_among path h =
      list_any-append _ (wanted_in scope held t) (after_in scope held t loaded) ∙ or_left (is_in (wanted_in scope held t) path) (is_in (after_in scope held t loaded) path) h

  reached_among : (path : List ℕ) → is_in (reached_in scope held t loaded) path ≡ true → is_in (library_paths scope held t loaded) path ≡ true
  reached_among path h =
      list_any-append _ (wanted_in scope held t) (after_in scope held t loaded)
      ∙ ap (λ b. is_in (wanted_in scope held t) path || b) (kept_in (λ path. not (is_in (wanted_in scope held t) path)) path (reached_in scope held t loaded))
      ∙ ap (λ b. is_in (wanted_in scope held t) path || (not (is_in (wanted_in scope held t) path) && b)) h
      ∙ either (is_in (wanted_in scope held t) path)
    where
      either : (b : Bool) → (b || (not b && true)) ≡ true
      either true = refl
      either false = refl

  skips_are : filter_map (skip_at (judged scope (info_files scope held part loaded))) (library_files scope held part loaded)
      ≡ filter_map (skip_at (judged scope (info_files scope held t loaded))) (library_files scope held t loaded)
  skips_are =
      ap (filter_map (skip_at all_what_part)) files_are
      ∙ skips_agree all_what all_what_part (library_files scope held t loaded) (λ path there. all_agree path (files_among path there))
    where
      files_among : (path : List ℕ) → is_in (library_files scope held t loaded) path ≡ true → is_in (library_paths scope held t loaded) path ≡ true
      files_among path h =
          let parts : (is_in (wanted_in scope held t) path || is_in (reached_in scope held t loaded) path) ≡ true =
          sym (list_any-append _ (wanted_in scope held t) (reached_in scope held t loaded)) ∙ sym (in_ascending (wanted_in scope held t ++ reached_in scope held t loaded) path) ∙ h in
          by_test (is_in (wanted_in scope held t) path)
          (λ e. wanted_among path e)
          (λ e. reached_among path (sym (ap (λ b. b || is_in (reached_in scope held t loaded) path) e) ∙ parts))

  -- ---- the files that are opened

  pub first_keys : wanted_keys scope held part loaded ≡ wanted_keys scope held t loaded
  unfolding wanted_keys
  first_keys = ap (opened_keys part (ids_of loaded)) wanted_are ∙ opened_seen t part (ids_of loaded) (wanted_in scope held t) wanted_there

  ids_are : ids_wanted scope held part loaded ≡ ids_wanted scope held t loaded
  unfolding ids_wanted
  ids_are = ap (λ paths. ids_of loaded ++ ids_at part paths) wanted_are ∙ ap (λ l. ids_of loaded ++ l) (ids_seen t part (wanted_in scope held t) wanted_there)

  pub next_keys : after_keys scope held part loaded ≡ after_keys scope held t loaded
  unfolding after_keys
  next_keys =
      ap (λ ids. opened_keys part ids (after_in scope held part loaded)) ids_are
      ∙ ap (opened_keys part (ids_wanted scope held t loaded)) after_are
      ∙ opened_seen t part (ids_wanted scope held t loaded) (after_in scope held t loaded) after_there

  lacks_are : conf_lacks (conf_of scope) held part ≡ conf_lacks (conf_of scope) held t
  lacks_are = conf_lacks_seen t part whole is held (conf_of scope) seen.conf

  pub lacking_are : lacks_wanted scope held part loaded ≡ lacks_wanted scope held t loaded
  lacking_are =
      ap (λ b. b || lacks_one held (wanted_keys scope held part loaded)) lacks_are ∙ ap (λ keys. conf_lacks (conf_of scope) held t || lacks_one held keys) first_keys

  pub keys_are : search_keys scope held part loaded ≡ search_keys scope held t loaded
  unfolding search_keys
  keys_are =
      ap (λ keys. keys ++ (cond (conf_lacks (conf_of scope) held part) [] (until_lacking held (wanted_keys scope held part loaded)))) (conf_keys_seen t part whole is held (conf_of scope) seen.conf)
      ∙ ap (λ b. conf_keys (conf_of scope) held t ++ (cond b [] (until_lacking held (wanted_keys scope held part loaded)))) lacks_are
      ∙ ap (λ keys. conf_keys (conf_of scope) held t ++ (cond (conf_lacks (conf_of scope) held t) [] (until_lacking held keys))) first_keys

  pub bytes_are : search_bytes scope held part loaded ≡ search_bytes scope held t loaded
  unfolding search_bytes
  bytes_are =
      ap (λ n. n + (cond (conf_lacks (conf_of scope) held part) 0 (most_of held (until_lacking held (wanted_keys scope held part loaded))))) (conf_bytes_seen t part whole is held (conf_of scope) seen.conf)
      ∙ ap (λ b. conf_bytes (conf_of scope) held t + (cond b 0 (most_of held (until_lacking held (wanted_keys scope held part loaded))))) lacks_are
      ∙ ap (λ keys. conf_bytes (conf_of scope) held t + (cond (conf_lacks (conf_of scope) held t) 0 (most_of held (until_lacking held keys)))) first_keys

  opened_are : opened_in scope held part loaded ≡ opened_in scope held t loaded
  opened_are = ap (λ keys. length keys + length (after_keys scope held part loaded)) first_keys ∙ ap (λ keys. length (wanted_keys scope held t loaded) + length keys) next_keys

  -- ---- the cache entries, if the planned links change no file of the search directories

  module _ (still : IsSettled (judged scope (info_wanted scope held part loaded)) part (places_in scope held part) (planned_in scope held part loaded)) where
    -- the files with library names in the planned tree
    wanted_stay : wanted (planned_in scope held t loaded) (places_in scope held t) ≡ wanted_in scope held t
    unfolding planned_in links_in wanted_in
    wanted_stay =
        sym (wanted_planned t part whole is what named (places_in scope held t) dirs_there seen.files)
        ∙ ap (λ n. wanted n (places_in scope held t)) (sym planned_are)
        ∙ ap (wanted (planned_in scope held part loaded)) (sym places_are)
        ∙ still.files ∙ wanted_are

    wanted_agree : AgreeOn (wanted (planned_in scope held t loaded) (places_in scope held t)) (judged scope (info_files scope held t loaded)) (judged scope (info_files scope held part loaded))
    wanted_agree path there = all_agree path (wanted_among path (ap (λ paths. is_in paths path) (sym wanted_stay) ∙ there))

    reached_agree : AgreeOn (reached (planned_in scope held t loaded) (places_in scope held t)) (judged scope (info_files scope held t loaded)) (judged scope (info_files scope held part loaded))
    unfolding reached_in
    reached_agree path there = all_agree path (reached_among path there)

    bests_are : best_libraries scope held part loaded ≡ best_libraries scope held t loaded
    unfolding best_libraries planned_in links_in
    bests_are =
        let plan = links_in scope held t loaded in
        let after = with_links t plan in
        let there = places_in scope held t in
        let whole_after : IsWhole after = whole_planned t whole what named there dirs_there in
        ap (λ n. bests_of all_what_part n (places_in scope held part)) planned_are
        ∙ ap (bests_of all_what_part (with_links part plan)) places_are
        ∙ bests_read after (with_links part plan) whole_after (part_planned t whole what named there dirs_there part is) all_what all_what_part there
        (wanted_with t part is plan whole_after.entries there dirs_there seen.files) wanted_agree

    pub looks_alike : LooksAlike scope held part t loaded
    looks_alike = record {
      items = items_are;
      conf = conf_is;
      places = places_are;
      absent_is = absent_are;
      wanted = wanted_are;
      info = info_are;
      links = links_are;
      blocked_is = blocked_are;
      mixed_is = mixed_are;
      reached = reached_are;
      dangling_is = dangling_are;
      after = after_are;
      files = files_are;
      all_info = all_info;
      bests = bests_are;
      skips = skips_are;
      stamps = stamps_are;
      wanted_keys_are = first_keys;
      after_keys_are = next_keys;
      search_keys_are = keys_are;
      search_bytes_are = bytes_are;
      lacks_wanted_is = lacking_are;
      opened = opened_are;
    }

    -- ---- the tree with the planned links, of which more was seen than of the part

    module _ (table : Analyses) (first : AgreeOn (wanted_in scope held part) (judged scope (info_files scope held part loaded)) table)
        (next : AgreeOn (reached_in scope held part loaded) (judged scope (info_files scope held part loaded)) table)
        (more : Nodes) (is_more : IsPart (planned_in scope held t loaded) more)
        (names : AreSeen (planned_in scope held t loaded) more (wanted_looked (planned_in scope held t loaded) (places_in scope held t))) where
      whole_more : IsWhole (planned_in scope held t loaded)
      unfolding planned_in links_in
      whole_more = whole_planned t whole what named (places_in scope held t) dirs_there

      pub table_wanted : AgreeOn (wanted (planned_in scope held t loaded) (places_in scope held t)) (judged scope (info_files scope held t loaded)) table
      table_wanted path there =
          first path (ap (λ paths. is_in paths path) wanted_are ∙ ap (λ paths. is_in paths path) (sym wanted_stay) ∙ there) ∙ wanted_agree path there

      pub table_reached : AgreeOn (reached (planned_in scope held t loaded) (places_in scope held t)) (judged scope (info_files scope held t loaded)) table
      unfolding reached_in
      table_reached path there = next path (ap (λ paths. is_in paths path) reached_are ∙ there) ∙ reached_agree path there

      pub bests_more : bests_of table more (places_in scope held t) ≡ best_libraries scope held t loaded
      unfolding best_libraries
      bests_more = bests_read (planned_in scope held t loaded) more whole_more is_more all_what table (places_in scope held t) names table_wanted

      pub entries_more : AreSeen (planned_in scope held t loaded) more (followed_looked (planned_in scope held t loaded) (places_in scope held t))
          → AreSeen (planned_in scope held t loaded) more (entries_looked table (planned_in scope held t loaded) (places_in scope held t))
          → found table more (places_in scope held t) ≡ entries_in scope held t loaded
      unfolding entries_in
      entries_more links sonames =
          entries_read (planned_in scope held t loaded) more whole_more is_more all_what table (places_in scope held t) names links sonames table_wanted table_reached

-- ---- the update

-- `still` says that the part, with its planned links, wants no further link and has the same files. `library_search::plan_found` ensures it.
pub update_seen : (scope : Scope) (held : Contents) (t part : Nodes) (loaded : List Stamp) → IsWhole t → IsPart t part → AreRecordable loaded → AreSeen t part (update_looked scope held t loaded)
    → IsSettled (judged scope (info_wanted scope held part loaded)) part (places_in scope held part) (planned_in scope held part loaded) → LooksAlike scope held part t loaded
update_seen scope held t part loaded whole is recordable all still =
    looks_alike scope held t part loaded whole is recordable (looked_parts scope held t part loaded all).0 still

-- the keys of the whole update are the same, if both trees have room for the planned links or neither has
pub update_keys_seen : (scope : Scope) (held : Contents) (t part : Nodes) (loaded : List Stamp) → LooksAlike scope held part t loaded
    → has_too_many_nodes scope held part loaded ≡ has_too_many_nodes scope held t loaded → update_keys scope held part loaded ≡ update_keys scope held t loaded
unfolding update_keys
update_keys_seen scope held t part loaded alike room =
    let keys = until_lacking held (after_keys scope held part loaded) in
    ap (λ first. first ++ (cond (lacks_wanted scope held part loaded || has_too_many_nodes scope held part loaded) [] keys)) alike.search_keys_are
    ∙ ap (λ b. search_keys scope held t loaded ++ (cond (b || has_too_many_nodes scope held part loaded) [] keys)) alike.lacks_wanted_is
    ∙ ap (λ b. search_keys scope held t loaded ++ (cond (lacks_wanted scope held t loaded || b) [] keys)) room
    ∙ ap (λ next. search_keys scope held t loaded ++ (cond (lacks_wanted scope held t loaded || has_too_many_nodes scope held t loaded) [] (until_lacking held next))) alike.after_keys_are
