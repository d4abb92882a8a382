-- The paths that are looked up to find the cache's entries: a soname may be the name of a link to the winner (ldconfig(8)).
use Rattle.std.specs.Prelude.{ℕ, List, [], ◌∷◌, if◌then◌else◌, flat_map}
use Rattle.cache_entries.specs.Winner.{winners_in}
use Rattle.file_table.specs.Analyses.{Analyses}
use Rattle.hwcap_dirs.specs.declared.kinds.Place.{Place}
use Rattle.image_tree.specs.Paths.{join}
use Rattle.image_tree.specs.Tree.{Nodes}
use Rattle.library_files.specs.Places.{has_no_cap}
use Rattle.place_libraries.specs.Best.{is_own}
use Rattle.place_libraries.specs.Library.{Library}

-- the path of a winner's soname, unless the soname is the winner's own name
abbrev pub soname_looked : Place → Library → List (List ℕ)
soname_looked place winner = if is_own winner then [] else join place.real winner.soname ∷ []

abbrev pub sonames_looked : Analyses → Nodes → Place → List (List ℕ)
sonames_looked what t place = if has_no_cap place then flat_map (soname_looked place) (winners_in what t place) else []

-- The sonames of the winners in the search directories. A soname that is a library name of the directory was looked up before.
unfoldable pub entries_looked : Analyses → Nodes → List Place → List (List ℕ)
entries_looked what t places = flat_map (sonames_looked what t) places
