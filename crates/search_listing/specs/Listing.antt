-- What a verbose update prints: a line for each search directory, and after it a line for each of its libraries (ldconfig(8), -v).
use Rattle.std.specs.Prelude.{ℕ, Bool, List, [], ◌∷◌, ◌++◌, flat_map, Option, Some, None}
use Rattle.std.specs.List.{list_any, zip}
use Rattle.std.specs.Map.{lookup}
use Rattle.std.specs.Str.{bytes_eq}
use Rattle.hwcap_dirs.specs.declared.kinds.Place.{Place}
use Rattle.image_tree.specs.Paths.{join}
use Rattle.ldso_conf.specs.declared.kinds.Conf.{Conf}
use Rattle.ldso_conf.specs.declared.kinds.Origin.{Origin}
use Rattle.link_plan.specs.declared.kinds.Planned.{Planned}
use Rattle.place_libraries.specs.Library.{Library}
use Rattle.search_listing.specs.Lines.{library_line, place_line}

-- ---- where search directories are named

-- the first line of the conf files that names this directory
abbrev pub origin_of : Conf → List ℕ → Option Origin
origin_of conf dir = lookup (bytes_eq dir) (zip conf.dirs conf.origins)

-- A glibc-hwcaps subdirectory is named by the line of its directory, which is the last one before it.
abbrev pub origin_by : Conf → Option Origin → List ℕ → Option (List ℕ) → Option Origin
origin_by conf before dir None = origin_of conf dir
origin_by conf before dir (Some name) = before

abbrev pub origin_after : Conf → Option Origin → Place → Option Origin
origin_after conf before place = origin_by conf before place.spelled place.cap

-- the lines that name the search directories, if `before` names the search directory before them
abbrev pub origins_after : Conf → Option Origin → List Place → List (Option Origin)
origins_after conf before [] = []
origins_after conf before (place ∷ places) = origin_after conf before place ∷ origins_after conf (origin_after conf before place) places

abbrev pub origins_of : Conf → List Place → List (Option Origin)
origins_of conf places = origins_after conf None places

-- ---- the libraries of a search directory

-- the link with this path was made
abbrev pub is_made : List Planned → List ℕ → Bool
is_made links path = list_any (λ link. bytes_eq path link.path) links

abbrev pub library_text : List Planned → Place → Library → List ℕ
library_text links place library = library_line library (is_made links (join place.real library.soname))

-- ---- the listing

-- the text of a search directory, given the line that names it and its libraries
abbrev pub place_text : List ℕ → List Planned → Place → Option Origin → List Library → List ℕ
place_text front links place origin libraries = place_line front place origin ++ flat_map (library_text links place) libraries

abbrev pub one_text : List ℕ → List Planned → Place × (Option Origin × List Library) → List ℕ
one_text front links (place, (origin, libraries)) = place_text front links place origin libraries

-- The text of all search directories, given the best libraries of each and the links that were made. Their paths begin with `front`.
unfoldable pub listing_text : List ℕ → Conf → List Place → List (List Library) → List Planned → List ℕ
listing_text front conf places bests links = flat_map (one_text front links) (zip places (zip (origins_of conf places) bests))
