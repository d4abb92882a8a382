-- The paths that are looked up to find the search directories (ld.so(8)) and the libraries in them (ldconfig(8)), in order.
use Rattle.std.specs.Prelude.{ℕ, Bool, List, [], ◌++◌, not, filter, flat_map, Option, Some, None}
use Rattle.hwcap_dirs.specs.Places.{Led, builtin_dirs, dir_at, hwcaps, is_hidden, kept}
use Rattle.hwcap_dirs.specs.declared.kinds.Place.{Place}
use Rattle.hwcap_dirs.specs.declared.kinds.Scope.{Scope}
use Rattle.image_tree.specs.Paths.{join}
use Rattle.image_tree.specs.Tree.{Nodes, children_of, node_at}
use Rattle.image_tree.specs.declared.node.Node.{Node}
use Rattle.image_tree.specs.declared.node.Node.TheVariants as node
use Rattle.name_order.specs.LibraryName.{is_library_name}
use Rattle.path_walk.specs.declared.walk.Mode.TheVariants.{Full, Plain}
use Rattle.seen_tree.specs.Part.{listed, looked_by}

-- ---- search directories

-- the paths that are looked up to resolve these paths
abbrev pub texts_looked : Nodes → List (List ℕ) → List (List ℕ)
texts_looked t texts = flat_map (λ text. looked_by t text Plain) texts

-- in a `glibc-hwcaps` directory only names that aren't hidden are looked up
abbrev pub is_shown : List ℕ → Bool
is_shown name = not (is_hidden name)

-- a `glibc-hwcaps` directory, given its path as written and its resolved path: its names, and the paths that are looked up to resolve them
abbrev pub caps_looked : Nodes → List ℕ → Option (List ℕ) → List (List ℕ)
caps_looked t folder (Some dir) = listed is_shown t dir ++ flat_map (λ name. looked_by t (join folder name) Plain) (filter is_shown (children_of t dir))
caps_looked t folder None = []

-- the `glibc-hwcaps` directory at this path, if there is one
abbrev pub hwcaps_looked : Nodes → List ℕ → List (List ℕ)
hwcaps_looked t folder = looked_by t folder Plain ++ caps_looked t folder (dir_at t folder)

-- the `glibc-hwcaps` directory of a directory
abbrev pub below_looked : Nodes → Led → List (List ℕ)
below_looked t led = hwcaps_looked t (join led.0 hwcaps)

-- All search directories, given the conf file's directories: first the directories themselves, then their `glibc-hwcaps` directories.
unfoldable pub places_looked : Scope → Nodes → List (List ℕ) → List (List ℕ)
places_looked scope t conf = texts_looked t (conf ++ builtin_dirs scope) ++ flat_map (below_looked t) (kept scope t conf)

-- ---- libraries

-- a search directory, and its library names
abbrev pub names_looked : Nodes → Place → List (List ℕ)
names_looked t place = listed is_library_name t place.real

-- The search directories and their library names: this finds the files with library names, and the paths of the planned links.
unfoldable pub wanted_looked : Nodes → List Place → List (List ℕ)
wanted_looked t places = flat_map (names_looked t) places

-- the paths that are looked up to resolve a path, if its node is a link
abbrev pub link_looked : Nodes → List ℕ → Option Node → List (List ℕ)
link_looked t path (Some (node.Link target)) = looked_by t path Full
link_looked t path (Some (node.File key id)) = []
link_looked t path (Some node.Dir) = []
link_looked t path None = []

abbrev pub link_at_looked : Nodes → List ℕ → List ℕ → List (List ℕ)
link_at_looked t folder name = link_looked t (join folder name) (node_at t (join folder name))

-- the links with library names in a directory
abbrev pub links_looked : Nodes → List ℕ → List (List ℕ)
links_looked t folder = flat_map (link_at_looked t folder) (filter is_library_name (children_of t folder))

-- The links with library names in the search directories: this finds the files that they resolve to.
unfoldable pub followed_looked : Nodes → List Place → List (List ℕ)
followed_looked t places = flat_map (λ place. links_looked t place.real) places
