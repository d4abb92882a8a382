-- The state of an in-memory directory.
use Rattle.std.specs.Prelude.{◌≡◌, ◌++◌, ◌∷◌, [], ℕ, Bool, true, List, Some, length, reverse}
use Rattle.image_tree.specs.Tree.{Nodes, kind_at, node_at, put}
use Rattle.image_tree.specs.declared.tree.Kind.TheVariants as kinds
use Rattle.image_tree.specs.declared.node.Node.TheVariants.{Link}
use Rattle.tree_face.specs.Failures.{Plan}
use Rattle.root_folder.specs.Failures.{plan_of}
use Rattle.root_folder.specs.Folder.{FolderContent, FolderState}
use Rattle.root_folder.specs.Found.{Found}
use Rattle.root_folder.specs.Past.{left_in, once_left_in, settled_in}
use Rattle.root_folder.specs.declared.folder.FolderCall.{FolderCall}
use Rattle.root_folder.specs.declared.memory.folders.MemFolder.{MemFolder}
use Rattle.root_folder.specs.Whole.{can_link}
use Rattle.root_folder.specs.declared.memory.past.Change.{Change}
use Rattle.root_folder.specs.declared.memory.past.Change.TheVariants.{Linked, Settled}

abbrev pub tree_of : MemFolder → Nodes
tree_of f = f.tree.tree

-- the tree, and the calls that changed it or changed what a crash leaves, oldest first
pub record Held : Type 0 where
  pub tree : Nodes
  pub changes : List Change

abbrev pub held_of : MemFolder → Held
held_of f = record { tree = tree_of f; changes = f.changes.items }

abbrev pub settled_by : Held → List ℕ → Found
settled_by h p = settled_in p (node_at h.tree p) (reverse h.changes)

abbrev pub left_by : Held → List ℕ → Found → Bool
left_by h p x = left_in p (node_at h.tree p) (reverse h.changes) x

abbrev pub once_left_by : Held → ℕ → List ℕ → Found → Bool
once_left_by h t p x = once_left_in t p (node_at h.tree p) (reverse h.changes) x

abbrev pub content_of : MemFolder → FolderContent
content_of f = record { now = tree_of f; settled = settled_by (held_of f) }

-- the calls that were made
abbrev pub calls_of : MemFolder → List FolderCall
calls_of f = f.calls.items

abbrev pub folder_state : MemFolder → FolderState
folder_state f = record {
  contents = Some (content_of f);
  time = length (reverse f.changes.items);
  may = left_by (held_of f);
  since = once_left_by (held_of f);
  calls = Some (calls_of f);
  counts = f.counts;
  faults = f.failures.faults;
  read_faults = f.failures.read_faults;
}

abbrev pub folder_plan : MemFolder → Plan
folder_plan f = plan_of f.failures

-- ---- changes

-- the tree and the changes stay the same
pub record IsUnchanged (old new : Held) : Type 0 where
  pub tree : new.tree ≡ old.tree
  pub changes : new.changes ≡ old.changes

-- a link is made, and its change is recorded
pub record IsLinked (path target : List ℕ) (old new : Held) : Type 0 where
  pub room : can_link old.tree path ≡ true
  pub tree : new.tree ≡ put old.tree path (Link target)
  pub changes : new.changes ≡ old.changes ++ Linked path (node_at old.tree path) ∷ []

-- an fsync of a directory is recorded
pub record IsSettledIn (dir : List ℕ) (old new : Held) : Type 0 where
  pub there : kind_at old.tree dir ≡ kinds.Dir
  pub tree : new.tree ≡ old.tree
  pub changes : new.changes ≡ old.changes ++ Settled dir ∷ []
