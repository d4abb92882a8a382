-- Which files of the search directories are examined (ldconfig(8): files and links with library names).
use Rattle.std.specs.Prelude.{ℕ, List, ◌&&◌, if◌then◌else◌, flat_map, map, Option, Some, None}
use Rattle.std.specs.List.{filter_map}
use Rattle.std.specs.Option.{is_none}
use Rattle.hwcap_dirs.specs.declared.kinds.Place.{Place}
use Rattle.name_order.specs.LibraryName.{is_library_name}
use Rattle.image_tree.specs.Paths.{join}
use Rattle.path_walk.specs.Files.{file_at, is_file}
use Rattle.image_tree.specs.Tree.{Nodes, kind_at, children_of, node_at}
use Rattle.image_tree.specs.declared.node.Node.{Node}
use Rattle.image_tree.specs.declared.node.Node.TheVariants as node
use Rattle.string_pool.specs.Order.{ascending}
use Rattle.library_files.specs.Link.{FollowedLink}
use Rattle.library_files.specs.declared.links.FolderLinks.{FolderLinks}

-- the path of a name in a directory, if the name is a library name and the path is a file
abbrev pub file_in : Nodes → List ℕ → List ℕ → Option (List ℕ)
file_in t folder name = if is_library_name name && is_file (kind_at t (join folder name)) then Some (join folder name) else None

-- ---- the files with library names

abbrev pub files_at : Nodes → List ℕ → List (List ℕ)
files_at t folder = filter_map (file_in t folder) (children_of t folder)

abbrev pub files_in : Nodes → Place → List (List ℕ)
files_in t place = files_at t place.real

-- The files with library names in these search directories, sorted by their paths.
unfoldable pub wanted : Nodes → List Place → List (List ℕ)
wanted t places = ascending (flat_map (files_in t) places)

-- ---- the links with library names

-- The link of a name and its node, if the node is a link and the name is a library name.
-- `file` is None if the link doesn't resolve to a file.
abbrev pub link_with : Nodes → List ℕ → List ℕ → Option Node → Option FollowedLink
link_with t folder name (Some (node.Link target)) =
    if is_library_name name then Some (record { name = name; target = target; file = file_at t (join folder name) }) else None
link_with t folder name (Some (node.File key id)) = None
link_with t folder name (Some node.Dir) = None
link_with t folder name None = None

abbrev pub followed_by : Nodes → List ℕ → List ℕ → Option FollowedLink
followed_by t folder name = link_with t folder name (node_at t (join folder name))

abbrev pub followed_in : Nodes → List ℕ → List FollowedLink
followed_in t folder = filter_map (followed_by t folder) (children_of t folder)

abbrev pub links_at : Nodes → List ℕ → FolderLinks
links_at t folder = record { folder = folder; links = followed_in t folder }

-- the links with library names in a search directory
abbrev pub folder_links : Nodes → Place → FolderLinks
folder_links t place = links_at t place.real

unfoldable pub followed : Nodes → List Place → List FolderLinks
followed t places = map (folder_links t) places

-- ---- the files that the links resolve to

abbrev pub files_of : FolderLinks → List (List ℕ)
files_of folder = filter_map (λ link. link.file) folder.links

abbrev pub files_after : List FolderLinks → List (List ℕ)
files_after followed = ascending (flat_map files_of followed)

-- The files that the links with library names in these search directories resolve to, sorted by their paths.
unfoldable pub reached : Nodes → List Place → List (List ℕ)
reached t places = files_after (followed t places)

-- ---- dangling links

-- the path of a link that doesn't resolve to a file
abbrev pub unless_file : List ℕ → FollowedLink → Option (List ℕ)
unless_file folder link = if is_none link.file then Some (join folder link.name) else None

abbrev pub dangling_in : Nodes → List ℕ → List (List ℕ)
dangling_in t folder = filter_map (unless_file folder) (followed_in t folder)

-- The links with library names in these search directories that don't resolve to a file. They are sorted by the bytes of the directory's
-- resolved path, then by the bytes of the name.
unfoldable pub dangling : Nodes → List Place → List (List ℕ)
dangling t places = flat_map (dangling_in t) (ascending (map (λ place. place.real) places))
