-- The files to which path texts lead.
use Rattle.std.specs.Prelude.{◌≡◌, ℕ, Bool, true, false, List, if◌then◌else◌, Option, Some, None, Result, Ok, Err, IfOk, IsTrue}
use Rattle.lib_types.specs.Name.{is_name}
use Rattle.lib_types.specs.declared.fault.NoMemory.{NoMemory}
use Rattle.image_tree.specs.Paths.{components, join}
use Rattle.image_tree.specs.declared.node.Node.TheVariants.{Link}
use Rattle.image_tree.specs.Tree.{Nodes, kind_at, node_at}
use Rattle.image_tree.specs.declared.tree.Kind.{Kind}
use Rattle.image_tree.specs.declared.tree.Kind.TheVariants as kinds
use Rattle.path_walk.specs.Walk.{resolution, steps, walk}
use Rattle.path_walk.specs.declared.walk.Mode.TheVariants.{Full}
use Rattle.path_walk.specs.declared.walk.WalkFault.{WalkFault}

abbrev pub is_file : Kind → Bool
is_file kinds.File = true
is_file kinds.Absent = false
is_file kinds.Dir = false
is_file kinds.Link = false

-- the file at which a walk ends, if it ends at a file
abbrev pub file_by : Nodes → Result (List ℕ) WalkFault → Option (List ℕ)
file_by t (Ok place) = if is_file (kind_at t place) then Some place else None
file_by t (Err fault) = None

-- the file to which a path text leads from a folder, if at most `links` links are followed
abbrev pub file_from : Nodes → ℕ → List ℕ → List ℕ → Option (List ℕ)
file_from t links path folder = file_by t (walk t Full links (steps t Full (components path) folder))

-- the file to which a path text leads if all links are followed
abbrev pub file_at : Nodes → List ℕ → Option (List ℕ)
file_at t path = file_by t (resolution t path Full)

-- the result is the file to which a link in this folder leads: the file at the link's path, for every name of the link
abbrev pub GivesFile : Nodes → List ℕ → List ℕ → Result (Option (List ℕ)) NoMemory → Type 0
GivesFile t folder target result = (name : List ℕ) → kind_at t folder ≡ kinds.Dir → IsTrue (is_name name) → node_at t (join folder name) ≡ Some (Link target) →
    IfOk result (λ file. file ≡ file_at t (join folder name))
