-- A link that is durable.
use Rattle.std.specs.Prelude.{◌≡◌, ℕ, List, Some}
use Rattle.image_tree.specs.declared.node.Node.TheVariants.{Link}
use Rattle.tree_face.specs.Known.{IfKnown}
use Rattle.root_folder.specs.Crash.{is_link_to}
use Rattle.root_folder.specs.Folder.{FolderState}
use Rattle.root_folder.specs.Found.{Found}

-- this link is at this path
abbrev pub IsLinkAt : List ℕ → List ℕ → List ℕ → Found → Type 0
IsLinkAt path target p x = (p ≡ path) × (x ≡ Some (Link target))

-- a crash leaves nothing else at the path
abbrev pub IsLeftAlone : List ℕ → List ℕ → FolderState → Type 0
IsLeftAlone path target s = IfKnown s.contents (λ c. (x : Found) → s.may path x ≡ is_link_to target x)
