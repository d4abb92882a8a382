-- The results of an image's search, part by part.
use Rattle.std.specs.Prelude.{◌≡◌, ◌+◌, ℕ, true, false, List, length, Some, None, IsSomeAnd}
use Rattle.std.specs.List.{filter_map}
use Rattle.std.specs.Map.{keys_of}
use Rattle.std.specs.Option.{option_map}
use Rattle.cache_entries.specs.Entries as entries
use Rattle.aux_cache.specs.declared.stamps.Stamp.{Stamp}
use Rattle.elf_dynamic.specs.Begun.{lacks_one}
use Rattle.hwcap_dirs.specs.Places.{absent}
use Rattle.hwcap_dirs.specs.declared.kinds.Scope.{Scope}
use Rattle.ldso_conf.specs.Reading.{IsConfOf, conf_keys}
use Rattle.string_pool.specs.Order.{ascending}
use Rattle.library_files.specs.Search.{dangling}
use Rattle.file_table.specs.Table.{analysis_at}
use Rattle.place_libraries.specs.Best.{bests_of}
use Rattle.soname_links.specs.Apply.{nodes_with}
use Rattle.soname_links.specs.Marks.{blocked, mixed}
use Rattle.tree_face.specs.Known.{IfKnown}
use Rattle.tree_face.specs.Store.{Contents, StoreState}
use Rattle.tree_face.specs.StoreUse.{Ending, ReadsFiles}
use Rattle.image_tree.specs.Tree.{Nodes}
use Rattle.update_report.specs.Skips.{skip_at}
use Rattle.library_search.specs.Begun.{after_keys, has_too_many_nodes, lacks_file, lacks_some, lacks_wanted, opened_in, search_bytes, search_keys, update_bytes, update_keys}
use Rattle.library_search.specs.Judged.{judged}
use Rattle.library_search.specs.declared.finding.Found.{Found}
use Rattle.library_search.specs.declared.search.Search.{Search}
use Rattle.library_search.specs.Ldconfig.{best_libraries, conf_in, conf_of, entries_in, library_files, links_in, places_in, planned_in, info_files, info_wanted, stamps_in}
use Rattle.library_search.specs.Stages.{HasRead}

-- ---- before the links are planned

-- the results; the contents of all files that had to be opened are held
pub record IsSearched (scope : Scope) (held : Contents) (t : Nodes) (loaded : List Stamp) (search : Search) : Type 0 where
  pub conf : IsConfOf (conf_of scope) search.conf held t
  pub places : search.dirs.places ≡ places_in scope held t
  pub absent_is : search.dirs.absent ≡ absent t (conf_in scope held t).dirs
  pub read : HasRead scope held t loaded search

-- the search opens these files, without assumptions on stamps
abbrev pub ReadsSearch : Scope → Nodes → List Stamp → Ending → StoreState → StoreState → Type 0
ReadsSearch scope t loaded ending old new =
    ReadsFiles (IsSomeAnd old.held (λ held. lacks_wanted scope held t loaded ≡ true)) (option_map (λ held. search_keys scope held t loaded) old.held)
    (option_map (λ held. search_bytes scope held t loaded) old.held) ending old new

-- ---- the whole search

-- the results in the tree and in the planned tree, for the whole update
pub record IsFound (scope : Scope) (held : Contents) (t : Nodes) (loaded : List Stamp) (found : Found) (tree : Nodes) : Type 0 where
  pub conf : IsConfOf (conf_of scope) found.search.conf held t
  pub places : found.search.dirs.places ≡ places_in scope held t
  pub absent_is : found.search.dirs.absent ≡ absent t (conf_in scope held t).dirs
  pub plan : found.links.plan ≡ links_in scope held t loaded
  pub tree_is : tree ≡ planned_in scope held t loaded
  pub blocked_is : found.links.blocked ≡ blocked (judged scope (info_wanted scope held t loaded)) t (places_in scope held t)
  pub mixed_is : found.links.mixed ≡ mixed (judged scope (info_wanted scope held t loaded)) t (places_in scope held t)
  pub dangling_is : found.followed.dangling ≡ dangling (planned_in scope held t loaded) (places_in scope held t)
  pub entries_are : entries.found (analysis_at found.search.files.table) tree found.search.dirs.places ≡ entries_in scope held t loaded
  pub bests_are : bests_of (analysis_at found.search.files.table) tree found.search.dirs.places ≡ best_libraries scope held t loaded
  pub skips_are : filter_map (skip_at (analysis_at found.search.files.table)) (ascending (keys_of found.search.files.table))
      ≡ filter_map (skip_at (judged scope (info_files scope held t loaded))) (library_files scope held t loaded)
  pub stamps : found.search.files.stamps ≡ stamps_in scope held t loaded
  pub opened : found.search.files.begun ≡ opened_in scope held t loaded
  pub none_lacks : lacks_wanted scope held t loaded ≡ false
  pub few : has_too_many_nodes scope held t loaded ≡ false
  pub none_after : lacks_one held (after_keys scope held t loaded) ≡ false
  -- the number of opened files: the conf files, and the library files that had to be opened
  pub counted : length (update_keys scope held t loaded) ≡ length (conf_keys (conf_of scope) held t) + opened_in scope held t loaded

-- The update opens these files and no others. Without assumptions on stamps, only a file of the image whose content isn't held ends the
-- reading, apart from failures of the store.
pub record ReadsFinding (scope : Scope) (t : Nodes) (loaded : List Stamp) (ending : Ending) (old new : StoreState) : Type 0 where
  pub keys : IfKnown old.held (λ held.
      ReadsFiles (lacks_file scope held t loaded ≡ true) (Some (update_keys scope held t loaded)) (Some (update_bytes scope held t loaded)) ending old new)
  pub any : ReadsFiles (IsSomeAnd old.held (λ held. lacks_some scope held t ≡ true)) None None ending old new

-- the contents of the opened files with library names are held, but the tree with the planned links would have too many nodes
pub record HasTooManyNodes (scope : Scope) (held : Contents) (t : Nodes) (loaded : List Stamp) (nodes : ℕ) : Type 0 where
  pub none_lacks : lacks_wanted scope held t loaded ≡ false
  pub many : has_too_many_nodes scope held t loaded ≡ true
  pub nodes_are : nodes ≡ nodes_with t (links_in scope held t loaded)
