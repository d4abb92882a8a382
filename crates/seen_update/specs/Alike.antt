-- The update of a part of a directory's tree, and that of the tree: what is the same.
use Rattle.std.specs.Prelude.{◌≡◌, List}
use Rattle.std.specs.List.{filter_map}
use Rattle.aux_cache.specs.declared.stamps.Stamp.{Stamp}
use Rattle.file_table.specs.Analyses.{AgreeOn}
use Rattle.hwcap_dirs.specs.Places.{absent}
use Rattle.hwcap_dirs.specs.declared.kinds.Scope.{Scope}
use Rattle.image_tree.specs.Tree.{Nodes}
use Rattle.ldso_conf.specs.Reading.{conf_items}
use Rattle.library_files.specs.Search.{dangling}
use Rattle.library_search.specs.Begun.{after_keys, lacks_wanted, opened_in, search_bytes, search_keys, wanted_keys}
use Rattle.library_search.specs.Judged.{judged}
use Rattle.library_search.specs.Ldconfig.{after_in, best_libraries, conf_in, conf_of, info_files, info_wanted, library_files, library_paths, links_in, places_in, planned_in, reached_in, stamps_in, wanted_in}
use Rattle.soname_links.specs.Marks.{blocked, mixed}
use Rattle.tree_face.specs.Store.{Contents}
use Rattle.update_report.specs.Skips.{skip_at}

-- What an update finds is the same in the part and in the tree. What is not: the trees themselves, the numbers of their nodes, and the cache
-- entries, for which the sonames are looked up in addition.
pub record LooksAlike (scope : Scope) (held : Contents) (part t : Nodes) (loaded : List Stamp) : Type 0 where
  pub items : conf_items (conf_of scope) held part ≡ conf_items (conf_of scope) held t
  pub conf : conf_in scope held part ≡ conf_in scope held t
  pub places : places_in scope held part ≡ places_in scope held t
  pub absent_is : absent part (conf_in scope held part).dirs ≡ absent t (conf_in scope held t).dirs
  -- the files with library names, with their ELF information
  pub wanted : wanted_in scope held part ≡ wanted_in scope held t
  pub info : AgreeOn (wanted_in scope held t) (info_wanted scope held t loaded) (info_wanted scope held part loaded)
  -- the planned links, and the sonames that are reported
  pub links : links_in scope held part loaded ≡ links_in scope held t loaded
  pub blocked_is : blocked (judged scope (info_wanted scope held part loaded)) part (places_in scope held part)
      ≡ blocked (judged scope (info_wanted scope held t loaded)) t (places_in scope held t)
  pub mixed_is : mixed (judged scope (info_wanted scope held part loaded)) part (places_in scope held part)
      ≡ mixed (judged scope (info_wanted scope held t loaded)) t (places_in scope held t)
  -- in the tree with the planned links
  pub reached : reached_in scope held part loaded ≡ reached_in scope held t loaded
  pub dangling_is : dangling (planned_in scope held part loaded) (places_in scope held part) ≡ dangling (planned_in scope held t loaded) (places_in scope held t)
  -- all library files, with their ELF information
  pub after : after_in scope held part loaded ≡ after_in scope held t loaded
  pub files : library_files scope held part loaded ≡ library_files scope held t loaded
  pub all_info : AgreeOn (library_paths scope held t loaded) (info_files scope held t loaded) (info_files scope held part loaded)
  pub bests : best_libraries scope held part loaded ≡ best_libraries scope held t loaded
  pub skips : filter_map (skip_at (judged scope (info_files scope held part loaded))) (library_files scope held part loaded)
      ≡ filter_map (skip_at (judged scope (info_files scope held t loaded))) (library_files scope held t loaded)
  pub stamps : stamps_in scope held part loaded ≡ stamps_in scope held t loaded
  -- the files that are opened
  pub wanted_keys_are : wanted_keys scope held part loaded ≡ wanted_keys scope held t loaded
  pub after_keys_are : after_keys scope held part loaded ≡ after_keys scope held t loaded
  pub search_keys_are : search_keys scope held part loaded ≡ search_keys scope held t loaded
  pub search_bytes_are : search_bytes scope held part loaded ≡ search_bytes scope held t loaded
  pub lacks_wanted_is : lacks_wanted scope held part loaded ≡ lacks_wanted scope held t loaded
  pub opened : opened_in scope held part loaded ≡ opened_in scope held t loaded
