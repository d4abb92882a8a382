-- The best library of a soname: the library whose name is the soname, or, if there is none, the library with the greatest name.
use Rattle.std.specs.Prelude.{ℕ, Bool, List, ◌&&◌, ◌||◌, not, map, Option, None}
use Rattle.hwcap_dirs.specs.declared.kinds.Place.{Place}
use Rattle.std.specs.List.{filter_map}
use Rattle.std.specs.Ordering.{is_gt}
use Rattle.std.specs.Str.{bytes_eq}
use Rattle.name_order.specs.Order.{name_order}
use Rattle.string_pool.specs.Order.{ascending}
use Rattle.place_libraries.specs.Pick.{best_with, better_by}
use Rattle.place_libraries.specs.Libraries.{libraries_in}
use Rattle.place_libraries.specs.Library.{Library}
use Rattle.file_table.specs.Analyses.{Analyses}
use Rattle.image_tree.specs.Tree.{Nodes}

-- the library's name is its soname
abbrev pub is_own : Library → Bool
is_own library = bytes_eq library.name library.soname

-- of two libraries with the same soname, the first is better
abbrev pub is_preferred : Library → Library → Bool
is_preferred library other = not (is_own other) && (is_own library || is_gt (name_order library.name other.name))

abbrev pub better : Option Library → Library → Option Library
better = better_by is_preferred

abbrev pub has_soname : List ℕ → Library → Bool
has_soname soname library = bytes_eq library.soname soname

-- the best of the libraries with this soname, if there is one
abbrev pub best : List Library → List ℕ → Option Library
best = best_with (λ library. library.soname) is_preferred None

abbrev pub sonames : List Library → List (List ℕ)
sonames libraries = ascending (map (λ library. library.soname) libraries)

-- The best library of each soname, sorted by the bytes of the sonames.
abbrev pub bests : List Library → List Library
bests libraries = filter_map (best libraries) (sonames libraries)

abbrev pub bests_in : Analyses → Nodes → Place → List Library
bests_in what t place = bests (libraries_in what t place)

-- the best libraries of each search directory
unfoldable pub bests_of : Analyses → Nodes → List Place → List (List Library)
bests_of what t places = map (bests_in what t) places
