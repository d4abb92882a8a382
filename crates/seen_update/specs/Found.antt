-- What the update of a part of a directory's tree finds, said of the tree.
use Rattle.std.specs.Prelude.{◌≡◌, false, List}
use Rattle.std.specs.List.{filter_map}
use Rattle.std.specs.Map.{keys_of}
use Rattle.aux_cache.specs.declared.stamps.Stamp.{Stamp}
use Rattle.cache_entries.specs.Entries as entries
use Rattle.elf_dynamic.specs.Begun.{lacks_one}
use Rattle.file_table.specs.Table.{analysis_at}
use Rattle.hwcap_dirs.specs.Places.{absent}
use Rattle.hwcap_dirs.specs.declared.kinds.Scope.{Scope}
use Rattle.image_tree.specs.Tree.{Nodes}
use Rattle.ldso_conf.specs.Reading.{IsConfOf}
use Rattle.library_files.specs.Search.{dangling}
use Rattle.library_search.specs.Begun.{after_keys, lacks_wanted, opened_in}
use Rattle.library_search.specs.Judged.{judged}
use Rattle.library_search.specs.Ldconfig.{best_libraries, conf_in, conf_of, entries_in, info_files, info_wanted, library_files, links_in, places_in, planned_in, stamps_in}
use Rattle.library_search.specs.declared.finding.Found.{Found}
use Rattle.place_libraries.specs.Best.{bests_of}
use Rattle.soname_links.specs.Marks.{blocked, mixed}
use Rattle.string_pool.specs.Order.{ascending}
use Rattle.tree_face.specs.Store.{Contents}
use Rattle.update_report.specs.Skips.{skip_at}

-- The facts of `IsFound`, of the tree `t`, if a part of it was searched. `tree` is the part with the planned links and the sonames that were
-- looked up then.
pub record FindsOf (scope : Scope) (held : Contents) (t : Nodes) (loaded : List Stamp) (found : Found) (tree : Nodes) : Type 0 where
  pub conf : IsConfOf (conf_of scope) found.search.conf held t
  pub places : found.search.dirs.places ≡ places_in scope held t
  pub absent_is : found.search.dirs.absent ≡ absent t (conf_in scope held t).dirs
  pub plan : found.links.plan ≡ links_in scope held t loaded
  pub blocked_is : found.links.blocked ≡ blocked (judged scope (info_wanted scope held t loaded)) t (places_in scope held t)
  pub mixed_is : found.links.mixed ≡ mixed (judged scope (info_wanted scope held t loaded)) t (places_in scope held t)
  pub dangling_is : found.followed.dangling ≡ dangling (planned_in scope held t loaded) (places_in scope held t)
  pub entries_are : entries.found (analysis_at found.search.files.table) tree found.search.dirs.places ≡ entries_in scope held t loaded
  pub bests_are : bests_of (analysis_at found.search.files.table) tree found.search.dirs.places ≡ best_libraries scope held t loaded
  pub skips_are : filter_map (skip_at (analysis_at found.search.files.table)) (ascending (keys_of found.search.files.table))
      ≡ filter_map (skip_at (judged scope (info_files scope held t loaded))) (library_files scope held t loaded)
  pub stamps : found.search.files.stamps ≡ stamps_in scope held t loaded
  pub opened : found.search.files.begun ≡ opened_in scope held t loaded
  pub none_lacks : lacks_wanted scope held t loaded ≡ false
  pub none_after : lacks_one held (after_keys scope held t loaded) ≡ false
