-- The paths that an update of a directory looks at, in order (ldconfig(8), ld.so(8), path_resolution(7)).
use Rattle.std.specs.Prelude.{ℕ, List, ◌++◌}
use Rattle.aux_cache.specs.declared.stamps.Stamp.{Stamp}
use Rattle.hwcap_dirs.specs.declared.kinds.Scope.{Scope}
use Rattle.image_tree.specs.Tree.{Nodes}
use Rattle.library_search.specs.Judged.{judged}
use Rattle.library_search.specs.Ldconfig.{conf_in, conf_of, info_files, links_in, places_in, planned_in}
use Rattle.ldso_conf.specs.Looked.{items_looked}
use Rattle.seen_places.specs.Entries.{entries_looked}
use Rattle.seen_places.specs.Looked.{places_looked, wanted_looked}
use Rattle.seen_places.specs.Planned.{planned_looked, unput}
use Rattle.tree_face.specs.Store.{Contents}

-- the paths that the reading of the conf files resolves, and the names that their patterns match
abbrev pub conf_looked : Scope → Contents → Nodes → List (List ℕ)
conf_looked scope held t = items_looked (conf_of scope) held t

-- the paths that lead to the search directories, and to their `glibc-hwcaps` directories
abbrev pub dirs_looked : Scope → Contents → Nodes → List (List ℕ)
dirs_looked scope held t = places_looked scope t (conf_in scope held t).dirs

-- the search directories, and the library names in them
abbrev pub files_looked : Scope → Contents → Nodes → List (List ℕ)
files_looked scope held t = wanted_looked t (places_in scope held t)

-- the paths that the links with library names pass in the tree with the planned links, except for the planned links
abbrev pub links_looked : Scope → Contents → Nodes → List Stamp → List (List ℕ)
links_looked scope held t loaded = planned_looked t (links_in scope held t loaded) (places_in scope held t)

-- the sonames of the winners in that tree, except for the planned links
abbrev pub sonames_looked : Scope → Contents → Nodes → List Stamp → List (List ℕ)
sonames_looked scope held t loaded =
    unput (links_in scope held t loaded) (entries_looked (judged scope (info_files scope held t loaded)) (planned_in scope held t loaded) (places_in scope held t))

-- The paths that an update looks at: those of the conf files, of the search directories, of the library names in them, of the links with
-- library names, and of the sonames.
unfoldable pub update_looked : Scope → Contents → Nodes → List Stamp → List (List ℕ)
update_looked scope held t loaded =
    conf_looked scope held t ++ dirs_looked scope held t ++ files_looked scope held t ++ links_looked scope held t loaded ++ sonames_looked scope held t loaded
