-- What is looked at to find the search directories (ld.so(8)) and the libraries in them (ldconfig(8)): the directories that are listed, and
-- the paths in the order in which they are looked up.
use Rattle.std.specs.Prelude.{ℕ, Bool, true, false, List, [], ◌∷◌, ◌++◌, filter, flat_map, Option, Some, None}
use Rattle.std.specs.List.{list_any}
use Rattle.std.specs.Str.{bytes_eq}
use Rattle.hwcap_dirs.specs.Places.{Led, dir_at, hwcaps, kept}
use Rattle.hwcap_dirs.specs.declared.kinds.Place.{Place}
use Rattle.hwcap_dirs.specs.declared.kinds.Scope.{Scope}
use Rattle.image_tree.specs.Paths.{join}
use Rattle.image_tree.specs.Tree.{Nodes, children_of}
use Rattle.image_tree.specs.declared.node.Node.{Node}
use Rattle.image_tree.specs.declared.node.Node.TheVariants as node
use Rattle.name_order.specs.LibraryName.{is_library_name}
use Rattle.path_walk.specs.declared.walk.Mode.TheVariants.{Full}
use Rattle.seen_places.specs.Looked.{link_at_looked}
use Rattle.seen_tree.specs.Part.{dirs_at, listed, looked_by}

-- ---- search directories

-- a `glibc-hwcaps` directory is listed, if there is one
abbrev pub caps_listed : Nodes → Option (List ℕ) → List (List ℕ)
caps_listed t (Some dir) = dirs_at t dir
caps_listed t None = []

abbrev pub below_listed : Nodes → Led → List (List ℕ)
below_listed t led = caps_listed t (dir_at t (join led.0 hwcaps))

-- The directories that are listed to find all search directories, given the conf file's directories.
unfoldable pub places_listed : Scope → Nodes → List (List ℕ) → List (List ℕ)
places_listed scope t conf = flat_map (below_listed t) (kept scope t conf)

-- ---- libraries

abbrev pub is_link : Option Node → Bool
is_link (Some (node.Link target)) = true
is_link (Some (node.File key id)) = false
is_link (Some node.Dir) = false
is_link None = false

-- the path of a name, and the paths that are looked up to resolve it if it is a link
abbrev pub named_looked : Nodes → List ℕ → List ℕ → List (List ℕ)
named_looked t dir name = join dir name ∷ link_at_looked t dir name

-- a directory and its library names, and then what the links among them lead to
abbrev pub library_looked : Nodes → List ℕ → List (List ℕ)
library_looked t dir = listed is_library_name t dir ++ flat_map (named_looked t dir) (filter is_library_name (children_of t dir))

-- the ways from the root to the search directories
abbrev pub ways_looked : Nodes → List Place → List (List ℕ)
ways_looked t places = flat_map (λ place. looked_by t place.real Full) places

-- The ways to the search directories, the directories, their library names, and what the links among them lead to.
unfoldable pub libraries_looked : Nodes → List Place → List (List ℕ)
libraries_looked t places = ways_looked t places ++ flat_map (λ place. library_looked t place.real) places

-- The search directories themselves are listed.
unfoldable pub libraries_listed : Nodes → List Place → List (List ℕ)
libraries_listed t places = flat_map (λ place. dirs_at t place.real) places

-- the name is one of these
abbrev pub is_among : List (List ℕ) → List ℕ → Bool
is_among names name = list_any (bytes_eq name) names
