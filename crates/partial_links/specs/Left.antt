-- What is left of a directory in which planned links are made one after another (symlink(2), rename(2), fsync(2)): by a call that failed, and by a crash.
use Rattle.std.specs.Prelude.{◌≡◌, ◌⊎◌, ℕ, true, List, map, Some}
use Rattle.std.specs.Option.{option_map}
use Rattle.hwcap_dirs.specs.declared.kinds.Scope.{Scope}
use Rattle.image_session.specs.Session.{Loaded}
use Rattle.image_tree.specs.Tree.{Nodes, IsPathSorted, node_at}
use Rattle.link_plan.specs.declared.kinds.Planned.{Planned}
use Rattle.root_folder.specs.Crash.{IsSettled}
use Rattle.root_folder.specs.Folder.{FolderState}
use Rattle.root_links.specs.Links.{Linking}
use Rattle.tree_face.specs.Store.{Contents}
use Rattle.partial_links.specs.Resumed.{IsRepaired}

-- the links of a plan, as they are made
abbrev pub linking : Planned → Linking
linking planned = (planned.path, planned.file)

abbrev pub linkings : List Planned → List Linking
linkings plan = map linking plan

-- A crash at some moment from t on might have left this tree: each path by itself has what was there at such a moment, or is settled.
pub record MightBeLeft (t : ℕ) (s : FolderState) (left : Nodes) : Type 0 where
  pub sorted : IsPathSorted left
  pub at : (path : List ℕ) → s.since t path (node_at left path) ≡ true

-- The calls left this tree; or all was settled before them, and a crash in them might have left it.
abbrev pub IsLeft : FolderState → FolderState → Nodes → Type 0
IsLeft old new left = (option_map (λ c. c.now) new.contents ≡ Some left) ⊎ (IsSettled old × MightBeLeft old.time new left)

-- whichever tree is left, an update of it plans the links that aren't there, and ends and writes as the update of the image
abbrev pub Repairs : Scope → Contents → Loaded → FolderState → FolderState → Type 0
Repairs scope held s old new = (left : Nodes) → IsLeft old new left → IsRepaired scope held s left
