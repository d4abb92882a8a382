-- Path resolution in an image's tree (path_resolution(7), symlink(7)). A walk begins at the root, takes one step for each name,
-- and follows at most 40 links.
use Rattle.std.specs.Prelude.{◌≡◌, ◌⊎◌, ℕ, zero, suc, Bool, true, false, List, [], ◌∷◌, ◌++◌, ◌&&◌, nat_eq, if◌then◌else◌, codes, Option, Some, None, Result, Ok, Err}
use Rattle.std.specs.List.{starts_with}
use Rattle.std.specs.Str.{bytes_eq}
use Rattle.name_order.specs.LibraryName.{is_library_name}
use Rattle.image_tree.specs.declared.node.Node.{Node}
use Rattle.image_tree.specs.declared.node.Node.TheVariants.{Dir, File, Link}
use Rattle.image_tree.specs.declared.tree.Kind.{Kind}
use Rattle.image_tree.specs.declared.tree.Kind.TheVariants as kinds
use Rattle.image_tree.specs.Paths.{root, components, join}
use Rattle.image_tree.specs.Tree.{Nodes, node_at, kind_at}
use Rattle.path_walk.specs.Names.{parent}
use Rattle.path_walk.specs.declared.walk.Mode.{Mode}
use Rattle.path_walk.specs.declared.walk.Mode.TheVariants.{Plain, Full}
use Rattle.path_walk.specs.declared.walk.WalkFault.{WalkFault}
use Rattle.path_walk.specs.declared.walk.WalkFault.TheVariants.{Absent, NotDir, TooManyLinks, NoMemory}
use Rattle.path_walk.specs.declared.walk.TheConstants.{LINKS_MAX}

-- how a walk stops: it ends with a result, or it must follow a link; then these names are left, and the walk goes on from this place
pub data Stop : Type 0 where
  Ends : Result (List ℕ) WalkFault → Stop
  Follows : List (List ℕ) → List ℕ → Stop

abbrev pub is_plain_mode : Mode → Bool
is_plain_mode Plain = true
is_plain_mode Full = false

-- the target of the link at a path
abbrev pub target_in : Option Node → List ℕ
target_in (Some (Link target)) = target
target_in (Some Dir) = []
target_in (Some (File key id)) = []
target_in None = []

abbrev pub target_at : Nodes → List ℕ → List ℕ
target_at t path = target_in (node_at t path)

-- where a target starts: at the root if it begins with a slash, otherwise in the link's folder
abbrev pub start_of : List ℕ → List ℕ → List ℕ
start_of target place = if starts_with nat_eq target root then root else place

-- In mode Plain a link with a library name counts as absent.
abbrev pub at_link : Mode → List ℕ → List ℕ → List (List ℕ) → List ℕ → Stop
at_link mode name target rest place =
    if is_plain_mode mode && is_library_name name then Ends (Err Absent) else Follows (components target ++ rest) (start_of target place)

-- A walk ends at a file. If names are left, even `..`, the fault is NotDir.
abbrev pub at_file : List (List ℕ) → List ℕ → Stop
at_file [] place = Ends (Ok place)
at_file (name ∷ rest) place = Ends (Err NotDir)

abbrev pub at_child : Kind → Stop → Stop → Stop → Stop
at_child kinds.Absent link file dir = Ends (Err Absent)
at_child kinds.Link link file dir = link
at_child kinds.File link file dir = file
at_child kinds.Dir link file dir = dir

-- the walk by these names from a directory, to its end or to the first link that must be followed
abbrev pub steps : Nodes → Mode → List (List ℕ) → List ℕ → Stop
steps t mode [] place = Ends (Ok place)
steps t mode (name ∷ rest) place =
    if bytes_eq name (codes "..") then steps t mode rest (parent place) else
    at_child (kind_at t (join place name))
    (at_link mode name (target_at t (join place name)) rest place)
    (at_file rest (join place name))
    (steps t mode rest (join place name))

-- the walk, following at most `links` further links
abbrev pub walk : Nodes → Mode → ℕ → Stop → Result (List ℕ) WalkFault
walk t mode links (Ends result) = result
walk t mode zero (Follows names place) = Err TooManyLinks
walk t mode (suc links) (Follows names place) = walk t mode links (steps t mode names place)

-- the fault is the fault of the walk, or NoMemory
abbrev pub IsNotFound : Result (List ℕ) WalkFault → WalkFault → Type 0
IsNotFound walk fault = (fault ≡ NoMemory) ⊎ (walk ≡ Err fault)

-- the path, without links, to which a path text leads
unfoldable pub resolution : Nodes → List ℕ → Mode → Result (List ℕ) WalkFault
resolution t path mode = walk t mode LINKS_MAX (steps t mode (components path) root)
