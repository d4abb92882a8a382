-- The tree with the planned links, and the number of its nodes.
use Rattle.std.specs.Prelude.{◌≡◌, ◌<◌, ◌≤◌, ◌+◌, ◌&&◌, not, nat_lt, ℕ, Bool, true, List, [], ◌∷◌, if◌then◌else◌, length, take, Option, Some, None}
use Rattle.std.specs.List.{filter_map, list_all, list_any}
use Rattle.std.specs.Option.{is_none, is_some}
use Rattle.std.specs.Str.{bytes_eq}
use Rattle.lib_types.specs.Name.{is_name}
use Rattle.image_tree.specs.Paths.{is_path}
use Rattle.image_tree.specs.Tree.{Nodes, clashes, node_at}
use Rattle.image_tree.specs.declared.node.Node.TheVariants.{Link}
use Rattle.image_tree.specs.declared.tree.TheConstants.{NODES_MAX}
use Rattle.string_pool.specs.Order.{ascending}
use Rattle.soname_links.specs.Plan.{with_link, with_links}
use Rattle.soname_links.specs.declared.kinds.ApplyFault.{ApplyFault}
use Rattle.soname_links.specs.declared.kinds.ApplyFault.TheVariants.{TooLarge, NoMemory}
use Rattle.link_plan.specs.declared.kinds.Planned.{Planned}

-- its path is valid, and its target is the name of a file
abbrev pub is_link : Planned → Bool
is_link planned = is_path planned.path && is_name planned.file

abbrev pub is_plan : List Planned → Bool
is_plan plan = list_all is_link plan

-- the path of a link, if the tree has no node there
abbrev pub new_path : Nodes → Planned → Option (List ℕ)
new_path t planned = if is_none (node_at t planned.path) then Some planned.path else None

-- the paths at which the plan adds a node, each once
abbrev pub new_paths : Nodes → List Planned → List (List ℕ)
new_paths t plan = ascending (filter_map (new_path t) plan)

-- the number of nodes of the tree with these links
abbrev pub nodes_with : Nodes → List Planned → ℕ
nodes_with t plan = length t + length (new_paths t plan)

-- that number, if it exceeds the maximum of a tree
abbrev pub too_many : Nodes → List Planned → Option ℕ
too_many t plan = if nat_lt NODES_MAX (nodes_with t plan) then Some (nodes_with t plan) else None

-- the link is at this path
abbrev pub is_at_path : List ℕ → Planned → Bool
is_at_path path planned = bytes_eq path planned.path

-- the tree has no node at the link's path, and no later link has the same path
abbrev pub is_last_new : Nodes → Planned → List Planned → Bool
is_last_new t planned later = is_some (new_path t planned) && not (list_any (is_at_path planned.path) later)

-- no link clashes when it is put after the earlier ones: nothing is below its path, and no file or link is above it
abbrev pub are_clear : Nodes → List Planned → Bool
are_clear t [] = true
are_clear t (planned ∷ plan) = not (clashes t planned.path (Link planned.file)) && are_clear (with_link t planned) plan

-- some of the links, from the first on, are in the tree
abbrev pub HasSome : Nodes → List Planned → Nodes → Type 0
HasSome t plan new = (n : ℕ) × (new ≡ with_links t (take n plan))

-- either the tree would have too many nodes and is unchanged, or it has room but memory is out and some of the links were put
abbrev pub IsApplyFault : Nodes → List Planned → Nodes → ApplyFault → Type 0
IsApplyFault t plan new (TooLarge nodes) = (nodes ≡ nodes_with t plan) × (NODES_MAX < nodes) × (new ≡ t)
IsApplyFault t plan new NoMemory = HasSome t plan new × (nodes_with t plan ≤ NODES_MAX)
