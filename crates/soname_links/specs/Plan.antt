-- The planned links. ldconfig(8) names a link by the soname and points it to the library's file.
use Rattle.std.specs.Prelude.{ℕ, Bool, true, false, List, [], ◌&&◌, ◌||◌, not, nat_lt, if◌then◌else◌, length, fold, Option, Some, None}
use Rattle.std.specs.List.{filter_map}
use Rattle.hwcap_dirs.specs.declared.kinds.Place.{Place}
use Rattle.name_order.specs.LibraryName.{is_library_name}
use Rattle.image_tree.specs.Paths.{join}
use Rattle.image_tree.specs.Tree.{Nodes, kind_at, put}
use Rattle.image_tree.specs.declared.node.Node.TheVariants.{Link}
use Rattle.image_tree.specs.declared.path.TheConstants.{PATH_MAX}
use Rattle.image_tree.specs.declared.tree.Kind.{Kind}
use Rattle.image_tree.specs.declared.tree.Kind.TheVariants as kinds
use Rattle.place_libraries.specs.Best.{is_own, bests}
use Rattle.place_libraries.specs.Libraries.{libraries_in}
use Rattle.library_files.specs.Places.{by_place, has_no_cap, links_to}
use Rattle.file_table.specs.Analyses.{Analyses}
use Rattle.place_libraries.specs.Library.{Library}
use Rattle.link_plan.specs.declared.kinds.Planned.{Planned}

-- the best library of a soname wants a link: the soname is a library name, and differs from the name of the library's file
abbrev pub is_regarded : Library → Bool
is_regarded best = is_library_name best.soname && not (is_own best)

-- a file or a directory is there
abbrev pub is_taken : Kind → Bool
is_taken kinds.File = true
is_taken kinds.Dir = true
is_taken kinds.Absent = false
is_taken kinds.Link = false

-- no link can be created at this path
abbrev pub is_blocked : Nodes → List ℕ → Bool
is_blocked t path = nat_lt PATH_MAX (length path) || is_taken (kind_at t path)

-- the link for the best library with a soname, unless the link exists or its path is blocked
abbrev pub link_for : Nodes → ℕ → Place → Library → Option Planned
link_for t number place best =
    if is_regarded best && not (is_blocked t (join place.real best.soname) || links_to t (join place.real best.soname) best.name)
    then Some (record { place = number; soname = best.soname; file = best.name; path = join place.real best.soname })
    else None

abbrev pub links_in : Analyses → Nodes → ℕ → Place → List Planned
links_in what t number place = if has_no_cap place then filter_map (link_for t number place) (bests (libraries_in what t place)) else []

-- The planned links, ordered by search directory and then by the bytes of their sonames.
unfoldable pub links : Analyses → Nodes → List Place → List Planned
links what t places = by_place (links_in what t) 0 places

-- ---- the planned tree

abbrev pub with_link : Nodes → Planned → Nodes
with_link t planned = put t planned.path (Link planned.file)

-- the tree with these links
abbrev pub with_links : Nodes → List Planned → Nodes
with_links t plan = fold with_link t plan
