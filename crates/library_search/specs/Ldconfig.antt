-- The results of an update of an image by ldconfig(8), from the conf file to the cache, for the contents in a store and the loaded
-- stamps.
use Rattle.std.specs.Prelude.{◌++◌, ℕ, List, [], Option, Some, None, filter, not}
use Rattle.std.specs.List.{list_any}
use Rattle.std.specs.Str.{bytes_eq}
use Rattle.aux_cache.specs.declared.stamps.Stamp.{Stamp}
use Rattle.cache_entries.specs.Entries.{found}
use Rattle.cache_entries.specs.Walk.{walk}
use Rattle.hwcap_dirs.specs.declared.kinds.Place.{Place}
use Rattle.hwcap_dirs.specs.Places.{places}
use Rattle.hwcap_dirs.specs.declared.kinds.Scope.{Scope}
use Rattle.hwcap_dirs.specs.declared.kinds.Scope.TheVariants.{Image, Only, Root}
use Rattle.ldso_conf.specs.Reading.{ConfFile, Given, Reading, Source, conf_path, reading}
use Rattle.lib_types.specs.declared.abi.Abi.{Abi}
use Rattle.lib_types.specs.declared.entry.Entry.{Entry}
use Rattle.file_table.specs.Analyses.{Analyses}
use Rattle.string_pool.specs.Order.{ascending}
use Rattle.library_files.specs.Search.{reached, wanted}
use Rattle.place_libraries.specs.Best.{bests_of}
use Rattle.place_libraries.specs.Library.{Library}
use Rattle.link_plan.specs.declared.kinds.Planned.{Planned}
use Rattle.soname_links.specs.Plan.{links, with_links}
use Rattle.file_stamps.specs.Info.{info_in, info_stamps}
use Rattle.file_stamps.specs.Stamped.{with_stamps}
use Rattle.tree_face.specs.Store.{Contents}
use Rattle.image_tree.specs.Tree.{Nodes}
use Rattle.library_search.specs.Judged.{judged}

-- the path of the conf file
abbrev pub conf_or : Option (List ℕ) → List ℕ
conf_or None = conf_path
conf_or (Some path) = path

-- where the search directories are named
abbrev pub conf_of : Scope → Source
conf_of Image = ConfFile conf_path
conf_of (Root conf) = ConfFile (conf_or conf)
conf_of (Only dirs) = Given dirs

-- The directories that are named there.
unfoldable pub conf_in : Scope → Contents → Nodes → Reading
conf_in scope held t = reading (conf_of scope) t held

-- The search directories: these and then the system's directories, each followed by its hwcaps subdirectories.
unfoldable pub places_in : Scope → Contents → Nodes → List Place
places_in scope held t = places scope t (conf_in scope held t).dirs

-- The files with library names in these directories.
unfoldable pub wanted_in : Scope → Contents → Nodes → List (List ℕ)
wanted_in scope held t = wanted t (places_in scope held t)

-- ---- The analyses of these files, given the loaded stamps (`info_in`). All of the following depends on them.

unfoldable pub info_wanted : Scope → Contents → Nodes → List Stamp → Analyses
info_wanted scope held t loaded = info_in held t loaded (wanted_in scope held t)

-- By the analyses that count (`judged`), the best library of each soname in a search directory wants a link that is named by the soname. The
-- missing links are planned.
unfoldable pub links_in : Scope → Contents → Nodes → List Stamp → List Planned
links_in scope held t loaded = links (judged scope (info_wanted scope held t loaded)) t (places_in scope held t)

-- the tree with the planned links
unfoldable pub planned_in : Scope → Contents → Nodes → List Stamp → Nodes
planned_in scope held t loaded = with_links t (links_in scope held t loaded)

-- The targets of links with library names in that tree. They are examined too.
unfoldable pub reached_in : Scope → Contents → Nodes → List Stamp → List (List ℕ)
reached_in scope held t loaded = reached (planned_in scope held t loaded) (places_in scope held t)

-- the paths of the library files
abbrev pub library_files : Scope → Contents → Nodes → List Stamp → List (List ℕ)
library_files scope held t loaded = ascending (wanted_in scope held t ++ reached_in scope held t loaded)

-- the link targets that aren't among the files with library names
abbrev pub after_in : Scope → Contents → Nodes → List Stamp → List (List ℕ)
after_in scope held t loaded = filter (λ path. not (list_any (bytes_eq path) (wanted_in scope held t))) (reached_in scope held t loaded)

-- the library files, each once, in the order in which they are read
abbrev pub library_paths : Scope → Contents → Nodes → List Stamp → List (List ℕ)
library_paths scope held t loaded = wanted_in scope held t ++ after_in scope held t loaded

-- the analyses of all library files
unfoldable pub info_files : Scope → Contents → Nodes → List Stamp → Analyses
info_files scope held t loaded = info_in held t loaded (library_paths scope held t loaded)

-- The stamps in the auxiliary cache, sorted by identity: those of all library files that have an identity.
unfoldable pub stamps_in : Scope → Contents → Nodes → List Stamp → List Stamp
stamps_in scope held t loaded = with_stamps [] (info_stamps t (info_files scope held t loaded) (library_paths scope held t loaded))

-- The cache entries, in no order. Each soname in a search directory has one, for its best file, or if it has no file, for its best link.
unfoldable pub entries_in : Scope → Contents → Nodes → List Stamp → List Entry
entries_in scope held t loaded = found (judged scope (info_files scope held t loaded)) (planned_in scope held t loaded) (places_in scope held t)

-- The best library of each soname in each place.
unfoldable pub best_libraries : Scope → Contents → Nodes → List Stamp → List (List Library)
best_libraries scope held t loaded = bests_of (judged scope (info_files scope held t loaded)) (planned_in scope held t loaded) (places_in scope held t)

-- The search of the directories for a name, an ABI and the loader's hwcaps names. It gives the path of the first winner: it tries the
-- subdirectories of each hwcaps name in order, and then the directories themselves (ld.so(8): glibc-hwcaps).
unfoldable pub walk_in : Scope → Contents → Nodes → List Stamp → List ℕ → Abi → List (List ℕ) → Option (List ℕ)
walk_in scope held t loaded = walk (judged scope (info_files scope held t loaded)) (planned_in scope held t loaded) (places_in scope held t)
