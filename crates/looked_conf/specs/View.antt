-- A view of a directory's tree, of which a part was looked at.
use Rattle.std.specs.Prelude.{◌≡◌, false, [], Option, Some, Err}
use Rattle.std.specs.Map.{keys_of}
use Rattle.std.specs.Option.{IsSomeAnd, option_map_or}
use Rattle.conf_views.specs.View.{ViewState}
use Rattle.conf_views.specs.declared.fault.ViewFault.{ViewFault}
use Rattle.conf_views.specs.declared.fault.ViewFault.TheVariants as faults
use Rattle.image_tree.specs.Tree.{Nodes}
use Rattle.looked_tree.specs.Looked.{IsLookedOf, Looked}
use Rattle.root_folder.specs.Folder.{FolderContent, FolderState}
use Rattle.root_tree.specs.ReadTree.{HasRead, ReadsOn}
use Rattle.root_tree.specs.declared.fault.TreeRead.{TreeRead}
use Rattle.root_tree.specs.declared.fault.TreeRead.TheVariants as read
use Rattle.seen_tree.specs.Seen.{IsFull}

-- the tree, if it is known
abbrev pub tree_of : Option FolderContent → Nodes
tree_of contents = option_map_or (λ c. c.now) contents []

abbrev pub view_state : FolderState → Looked → ViewState
view_state folder l = record { tree = tree_of folder.contents; whole = false; looked = l.seen.looked; listed = keys_of l.lists }

-- the tree is known, and what was looked at agrees with it
abbrev pub IsViewOf : FolderState → Looked → Type 0
IsViewOf folder l = IsSomeAnd folder.contents (λ c. IsLookedOf c.now l)

-- ---- faults

-- The directory is only read. A call failed and the counts of faults rose, or no path could be looked up in addition, or memory was out.
pub record FailsBy (why : TreeRead) (old new : FolderState) (l : Looked) : Type 0 where
  pub reads : ReadsOn {A = Unit {0}} (Err why) old new
  pub full : why ≡ read.TooLarge → IsFull l.seen

-- if the view doesn't answer, the last fault says why; without memory no call failed
abbrev pub ViewFails : ViewFault → Option TreeRead → FolderState → FolderState → Looked → Type 0
ViewFails faults.Unseen last old new l = IsSomeAnd last (λ why. FailsBy why old new l)
ViewFails faults.NoMemory last old new l = HasRead old new

-- why the view doesn't answer; the fault is kept, unless memory is out
abbrev pub IsViewFault : TreeRead → Option TreeRead → ViewFault → Type 0
IsViewFault (read.Failed at) last fault = (fault ≡ faults.Unseen) × (last ≡ Some (read.Failed at))
IsViewFault read.TooLarge last fault = (fault ≡ faults.Unseen) × (last ≡ Some read.TooLarge)
IsViewFault read.NoMemory last fault = fault ≡ faults.NoMemory
