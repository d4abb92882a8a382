-- The search directories in order, and the links in them.
use Rattle.std.specs.Prelude.{ℕ, ◌+◌, Bool, false, List, [], ◌∷◌, ◌++◌, Option, Some, None}
use Rattle.std.specs.Option.{is_none}
use Rattle.std.specs.Str.{bytes_eq}
use Rattle.hwcap_dirs.specs.declared.kinds.Place.{Place}
use Rattle.image_tree.specs.Tree.{Nodes, node_at}
use Rattle.image_tree.specs.declared.node.Node.{Node}
use Rattle.image_tree.specs.declared.node.Node.TheVariants.{Dir, File, Link}

-- the items of each search directory, given its number, in the order of the search directories
abbrev pub by_place : {A : Type 0} → (ℕ → Place → List A) → ℕ → List Place → List A
by_place has number [] = []
by_place has number (place ∷ places) = has number place ++ by_place has (number + 1) places

-- the search directory is not a `glibc-hwcaps` subdirectory
abbrev pub has_no_cap : Place → Bool
has_no_cap place = is_none place.cap

abbrev pub is_link_to : List ℕ → Option Node → Bool
is_link_to text (Some (Link target)) = bytes_eq target text
is_link_to text (Some Dir) = false
is_link_to text (Some (File key id)) = false
is_link_to text None = false

-- the path is a link with this target
abbrev pub links_to : Nodes → List ℕ → List ℕ → Bool
links_to t path text = is_link_to text (node_at t path)
