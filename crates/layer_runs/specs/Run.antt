-- The run of the command `layers`. After the layers' manifests are read, an update of the image that they make does all else.
use Rattle.std.specs.Prelude.{◌≡◌, ℕ, List, Result, Ok, Err}
use Rattle.command_status.specs.declared.status.Status.{Status}
use Rattle.image_session.specs.Adopted.{Adopts}
use Rattle.image_session.specs.Session.{Loaded}
use Rattle.image_session.specs.declared.fault.LoadFault.{LoadFault}
use Rattle.image_tree.specs.Tree.{Nodes}
use Rattle.script_runs.specs.Stored.{AfterLoad, one_update}
use Rattle.tree_face.specs.Disk.{DiskState}
use Rattle.tree_face.specs.Store.{StoreState}
use Rattle.tree_face.specs.declared.disk.Tag.{Tag}
use Rattle.update_runs.specs.Update.{States}
use Rattle.layer_runs.specs.Faults.{of_image}
use Rattle.layer_runs.specs.Image.{ReadsImage}
use Rattle.layer_runs.specs.declared.fault.ImageFault.{ImageFault}

-- the number of the temporary files
abbrev pub tag : Tag
tag = record { 0 = 0 }

-- the image of the tree is adopted, and updated once
pub record RunsAdopted (tree : Nodes) (status : Status) (old new : States) : Type 0 where
  pub adopted : Result Loaded LoadFault
  -- the disk when the image is adopted
  pub between : DiskState
  pub adopts : Adopts tree adopted old.disk between
  pub after : AfterLoad tag one_update adopted status (record old { disk = between }) new

-- if the layers make no image, nothing is changed
abbrev pub AfterImage : Result Nodes ImageFault → Status → States → States → Type 0
AfterImage (Ok tree) status old new = RunsAdopted tree status old new
AfterImage (Err fault) status old new = (status ≡ of_image fault) × (new ≡ old)

pub record RunsLayers (keys : List (List ℕ)) (status : Status) (old new : States) : Type 0 where
  pub image : Result Nodes ImageFault
  -- the store when the manifests are read
  pub read : StoreState
  pub reads : ReadsImage keys image old.store read
  pub after : AfterImage image status (record old { store = read }) new
