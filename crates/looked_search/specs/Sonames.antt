-- The links with the names of sonames that aren't library names. An entry names such a link if it leads to the winner (ldconfig(8)).
use Rattle.std.specs.Prelude.{◌≡◌, ℕ, List, [], ◌∷◌, if◌then◌else◌, flat_map, unwrap_or, Option, Some, None}
use Rattle.std.specs.List.{AllByRecursion, filter_map}
use Rattle.file_table.specs.Analyses.{Analyses}
use Rattle.file_table.specs.Table.{Rows}
use Rattle.hwcap_dirs.specs.declared.kinds.Place.{Place}
use Rattle.image_tree.specs.Paths.{join}
use Rattle.image_tree.specs.Tree.{Nodes, kind_at, node_at}
use Rattle.image_tree.specs.declared.node.Node.{Node}
use Rattle.image_tree.specs.declared.node.Node.TheVariants as node
use Rattle.image_tree.specs.declared.tree.Kind.TheVariants as kinds
use Rattle.lib_types.specs.declared.analysis.Analysis.{Analysis}
use Rattle.lib_types.specs.declared.analysis.Analysis.TheVariants.{Lib, Not}
use Rattle.library_files.specs.Places.{has_no_cap, is_link_to}
use Rattle.looked_tree.specs.Looked.{IsLookedOf, Looked, LooksOn}
use Rattle.name_order.specs.LibraryName.{is_library_name}
use Rattle.path_walk.specs.Names.{last}
use Rattle.place_libraries.specs.Libraries.{libraries_at}
use Rattle.root_folder.specs.Folder.{FolderState}
use Rattle.root_folder.specs.Whole.{IsWhole}
use Rattle.root_tree.specs.ReadTree.{HasRead}
use Rattle.seen_tree.specs.Part.{IsPart, KeepsNodes}
use Rattle.tree_face.specs.Known.{IfKnown}

-- ---- the paths

-- the soname of a library at this path: its own name if it has none; none if it isn't a library
abbrev pub soname_of : List ℕ → Analysis → Option (List ℕ)
soname_of path (Lib abi soname) = Some (unwrap_or soname (last path))
soname_of path (Not defect) = None

abbrev pub unless_library : Option (List ℕ) → Option (List ℕ)
unless_library (Some soname) = if is_library_name soname then None else Some soname
unless_library None = None

-- the soname of a row, if it isn't a library name
abbrev pub odd_soname : List ℕ × Analysis → Option (List ℕ)
odd_soname row = unless_library (soname_of row.0 row.1)

abbrev pub odd_sonames : Rows → List (List ℕ)
odd_sonames rows = filter_map odd_soname rows

-- the path of a soname in a search directory
abbrev pub path_in : List ℕ → Place → List (List ℕ)
path_in soname place = if has_no_cap place then join place.real soname ∷ [] else []

abbrev pub paths_in : List Place → List ℕ → List (List ℕ)
paths_in places soname = flat_map (path_in soname) places

-- The paths of the sonames that aren't library names, in each search directory.
abbrev pub odd_paths : List Place → Rows → List (List ℕ)
odd_paths places rows = flat_map (paths_in places) (odd_sonames rows)

-- ---- what is added to a tree

-- at these paths, the tree has the same links
abbrev pub HasLinksAt : Nodes → Nodes → List ℕ → Type 0
HasLinksAt t tree path = (text : List ℕ) → is_link_to text (node_at tree path) ≡ is_link_to text (node_at t path)

abbrev pub HaveLinks : Nodes → Nodes → List (List ℕ) → Type 0
HaveLinks t tree paths = AllByRecursion (HasLinksAt t tree) paths

-- the target of a link
abbrev pub link_target : Option Node → Option (List ℕ)
link_target (Some (node.Link target)) = Some target
link_target (Some node.Dir) = None
link_target (Some (node.File key id)) = None
link_target None = None

-- where the part has no node, the directory with the tree `c` has the node of `t`
abbrev pub AreThose : Nodes → Nodes → Nodes → Type 0
AreThose c t part = (path : List ℕ) → node_at part path ≡ None → node_at t path ≡ node_at c path

-- each node and each directory is still there, and each directory has the same libraries
pub record KeepsLibraries (old new : Nodes) : Type 0 where
  pub nodes : KeepsNodes old new
  pub dirs : (d : List ℕ) → kind_at old d ≡ kinds.Dir → kind_at new d ≡ kinds.Dir
  pub libraries : (what : Analyses) (d : List ℕ) → kind_at old d ≡ kinds.Dir → libraries_at what new d ≡ libraries_at what old d

-- what is known of the tree `t`: its part is still one, and has all links if it has those that are left
pub record AddsTo (t old new : Nodes) (all left : List (List ℕ)) : Type 0 where
  pub part : IsPart t new
  pub links : (later : Nodes) → KeepsNodes new later → IsPart t later → HaveLinks t later left → HaveLinks t later all

-- The links at these paths were looked up and added, except for those that are left.
pub record AddsSonames (all left : List (List ℕ)) (a b : FolderState) (looked_old looked_new : Looked) (old new : Nodes) : Type 0 where
  pub keeps : KeepsLibraries old new
  pub looks : LooksOn a b looked_old looked_new
  pub known : IfKnown a.contents (λ c. IsLookedOf c.now looked_old → (t : Nodes) → IsWhole t → IsPart t old → AreThose c.now t old → AddsTo t old new all left)

-- the same, from nothing looked up
pub record AddsTree (paths : List (List ℕ)) (a b : FolderState) (old new : Nodes) : Type 0 where
  pub keeps : KeepsLibraries old new
  pub reads : HasRead a b
  pub known : IfKnown a.contents (λ c. (t : Nodes) → IsWhole t → IsPart t old → AreThose c.now t old → AddsTo t old new paths [])
