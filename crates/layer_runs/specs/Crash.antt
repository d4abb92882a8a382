-- What a crash of the update of an adopted image leaves, and what repairs it.
use Rattle.std.specs.Prelude.{◌≡◌, ◌⊎◌, true, Option, Result, IfOk}
use Rattle.command_status.specs.declared.status.Status.{Status}
use Rattle.file_stamps.specs.Stamped.{AreTrue}
use Rattle.hwcap_dirs.specs.declared.kinds.Scope.TheVariants.{Image}
use Rattle.image_session.specs.Adopted.{IsAdopted, adopted_with}
use Rattle.image_session.specs.Session.{Loaded}
use Rattle.image_session.specs.declared.fault.LoadFault.{LoadFault}
use Rattle.image_tree.specs.Tree.{Nodes}
use Rattle.ldconfig_core.specs.Outcome.{new_manifest, update_outcome}
use Rattle.ldconfig_core.specs.Repair.{IsImageIn, MightBeLeft}
use Rattle.ldconfig_core.specs.Texts.{AreAlike, AreTextsOf, UpdateTexts}
use Rattle.script_runs.specs.Course.{IsReliable}
use Rattle.script_runs.specs.Crash.{IsOfUpdate}
use Rattle.script_runs.specs.Stored.{LeavesBy, one_update}
use Rattle.tree_face.specs.Disk.{Content, DiskContent, DiskState, Slots}
use Rattle.tree_face.specs.Store.{Contents}
use Rattle.tree_face.specs.declared.disk.Slot.TheVariants.{Aux, Manifest}
use Rattle.layer_runs.specs.Run.{tag}

-- the crash of an update of the adopted image; if it isn't adopted, a crash leaves what a crash at the start might have left
pub record LeavesWholeImage (tree : Nodes) (known : Option Contents) (status : Status) (old new : DiskState) : Type 0 where
  pub adopted : Result Loaded LoadFault
  pub is : IfOk adopted (IsAdopted old.contents tree)
  pub whole : LeavesBy tag known one_update adopted status old new

-- the same layers over the files that a crash has left: the update has the same outcome, and writes the same files
pub record IsRepairedByLayers (held : Contents) (tree : Nodes) (s left : Loaded) : Type 0 where
  pub are_true : AreTrue held tree left.stamps
  pub outcome : update_outcome Image held left ≡ update_outcome Image held s
  pub again : (texts again : UpdateTexts) → AreTextsOf Image held s texts → AreTextsOf Image held left again → AreAlike texts again

-- The manifest is one that a crash at the start might have left. Or it is the new one; then an update is made, writes no manifest and the
-- same caches.
abbrev pub IsRepairedByUpdate : Contents → Loaded → DiskState → Slots → Type 0
IsRepairedByUpdate held s old image =
    (old.may Manifest image.manifest ≡ true)
    ⊎ ((image.manifest ≡ new_manifest Image held s) × ((left : Loaded) × (IsImageIn image left × IsOfUpdate held s left)))

-- the files that a crash has left are repaired by the same layers, and by an update if the manifest is the new one
pub record IsRepairable (held : Contents) (tree : Nodes) (s : Loaded) (old : DiskState) (image : Slots) : Type 0 where
  pub by_layers : IsRepairedByLayers held tree s (adopted_with tree image.aux)
  pub by_update : IsRepairedByUpdate held s old image

-- a crash leaves in the Aux slot exactly what it holds
abbrev pub LeavesOnlyAux : DiskState → Content → Type 0
LeavesOnlyAux s aux = (b : Content) → s.may Aux b ≡ true → b ≡ aux

-- This holds for all files that a crash since the start may leave, if a crash at the start leaves of the auxiliary cache only what its file
-- holds, and the identities are trustworthy.
abbrev pub RepairsAdopted : Contents → Nodes → DiskContent → DiskState → DiskState → Type 0
RepairsAdopted held tree content old new =
    LeavesOnlyAux old content.now.aux → IsReliable held (adopted_with tree content.now.aux) → (image : Slots) → MightBeLeft old.time new image
    → IsRepairable held tree (adopted_with tree content.now.aux) old image
