-- The file or link of a search directory by which a soname is looked up: the winner (ldconfig(8); link names as ld(1) and the loader use
-- them).
use Rattle.std.specs.Prelude.{ℕ, Bool, List, ◌++◌, ◌&&◌, ◌||◌, nat_eq, nat_lt, if◌then◌else◌, length, codes, Option, Some, None}
use Rattle.std.specs.List.{ends_with, filter_map, starts_with}
use Rattle.hwcap_dirs.specs.declared.kinds.Place.{Place}
use Rattle.image_tree.specs.Tree.{Nodes}
use Rattle.path_walk.specs.Names.{last}
use Rattle.place_libraries.specs.Best.{best, is_own, sonames}
use Rattle.place_libraries.specs.Libraries.{libraries_in, library_at}
use Rattle.library_files.specs.Search.{followed_in}
use Rattle.file_table.specs.Analyses.{Analyses}
use Rattle.place_libraries.specs.Library.{Library}
use Rattle.library_files.specs.Link.{FollowedLink}

-- ---- links to libraries

-- the library that a link leads to, with the link's name
abbrev pub library_after : Analyses → List ℕ → Option (List ℕ) → Option Library
library_after what name (Some file) = library_at what file name (last file)
library_after what name None = None

abbrev pub linked : Analyses → FollowedLink → Option Library
linked what link = library_after what link.name link.file

-- the links of a search directory that have library names and lead to libraries
abbrev pub links_to_libraries : Analyses → Nodes → Place → List Library
links_to_libraries what t place = filter_map (linked what) (followed_in t place.real)

-- ---- the classes

-- The name is a proper prefix of the soname and ends in .so, as the link for ld(1) does.
abbrev pub is_dev_name : List ℕ → List ℕ → Bool
is_dev_name name soname = ends_with nat_eq name (codes ".so") && (starts_with nat_eq soname name && nat_lt (length name) (length soname))

-- the link is looked up by its own name
abbrev pub has_own_name : Library → Bool
has_own_name link = is_own link || is_dev_name link.name link.soname

-- the link as a library with its own name as soname, if it is looked up by its own name
abbrev pub named : Library → Option Library
named link = if has_own_name link then Some (record { name = link.name; soname = link.name; abi = link.abi }) else None

-- the link, if it is looked up by its library's soname
abbrev pub unnamed : Library → Option Library
unnamed link = if has_own_name link then None else Some link

abbrev pub named_links : List Library → List Library
named_links links = filter_map named links

abbrev pub other_links : List Library → List Library
other_links links = filter_map unnamed links

-- ---- the winner

abbrev pub or_else : Option Library → Option Library → Option Library
or_else (Some library) other = Some library
or_else None other = other

-- The best file, otherwise the link with this name, otherwise the best of the other links.
abbrev pub winner : List Library → List Library → List ℕ → Option Library
winner files links soname = or_else (best files soname) (or_else (best (named_links links) soname) (best (other_links links) soname))

-- the winners of a search directory, sorted by the bytes of their sonames
abbrev pub winners_among : List Library → List Library → List Library
winners_among files links = filter_map (winner files links) (sonames (files ++ (named_links links ++ other_links links)))

abbrev pub winners_in : Analyses → Nodes → Place → List Library
winners_in what t place = winners_among (libraries_in what t place) (links_to_libraries what t place)
