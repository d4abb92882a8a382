-- A tree with a part of its planned links: a crash or a failing call between two links leaves one. An update of it plans the links that aren't there,
-- and finds the same in all else.
use Rattle.std.specs.Prelude.{◌≡◌, ◌⊎◌, ℕ, IsTrue, Bool, List, [], ◌∷◌, filter, map, not, Option, Some}
use Rattle.hwcap_dirs.specs.Places.{are_dirs}
use Rattle.hwcap_dirs.specs.declared.kinds.Place.{Place}
use Rattle.image_tree.specs.Tree.{Nodes, node_at}
use Rattle.image_tree.specs.declared.node.Node.{Node}
use Rattle.image_tree.specs.declared.node.Node.TheVariants.{Link}
use Rattle.library_files.specs.Places.{links_to}
use Rattle.library_files.specs.Search.{wanted}
use Rattle.link_plan.specs.declared.kinds.Planned.{Planned}
use Rattle.place_libraries.specs.Libraries.{libraries_in}
use Rattle.soname_links.specs.Plan.{links, with_links}
use Rattle.file_table.specs.Analyses.{Analyses}

-- ---- a part of the links

-- one of the planned links is at this path
abbrev pub IsOfPlan : List Planned → List ℕ → Option Node → Type 0
IsOfPlan [] path found = ⊥
IsOfPlan (planned ∷ plan) path found = ((path ≡ planned.path) × (found ≡ Some (Link planned.file))) ⊎ IsOfPlan plan path found

-- each path has what it had, or a link that is planned there
abbrev pub HasPart : Nodes → List Planned → Nodes → Type 0
HasPart t plan new = (path : List ℕ) → (node_at new path ≡ node_at t path) ⊎ IsOfPlan plan path (node_at new path)

-- the link is there
abbrev pub is_made : Nodes → Planned → Bool
is_made t planned = links_to t planned.path planned.file

-- the links of a plan that aren't there yet
abbrev pub missing : Nodes → List Planned → List Planned
missing t plan = filter (λ planned. not (is_made t planned)) plan

-- ---- an update of such a tree

-- The places are directories still, and have the same files and libraries. The links that aren't there are planned, which gives the same planned tree.
pub record PlansRest (what : Analyses) (t : Nodes) (places : List Place) (new : Nodes) : Type 0 where
  pub dirs : IsTrue (are_dirs new places)
  pub files : wanted new places ≡ wanted t places
  pub libraries : map (libraries_in what new) places ≡ map (libraries_in what t) places
  pub rest : links what new places ≡ missing new (links what t places)
  pub planned : with_links new (links what new places) ≡ with_links t (links what t places)
