-- The command `layers`: an update of the image that layers make.
use Rattle.std.specs.Prelude.{◌≡◌, ℕ, List, IfOk}
use Rattle.command_status.specs.Status.{EndsWith}
use Rattle.command_status.specs.declared.status.LayerKind.{LayerKind}
use Rattle.command_status.specs.declared.status.Status.{Status}
use Rattle.command_status.specs.declared.status.Status.TheVariants.{BadLayer}
use Rattle.image_tree.specs.Tree.{Nodes}
use Rattle.script_runs.specs.Batch.{states_of}
use Rattle.tree_face.specs.Devices.{DeviceStates, IfBothKnown}
use Rattle.tree_face.specs.Known.{IfKnown}
use Rattle.tree_face.specs.Stream.{SinkState}
use Rattle.update_runs.specs.Update.{States}
use Rattle.layer_runs.specs.Crash.{LeavesWholeImage, RepairsAdopted}
use Rattle.layer_runs.specs.Image.{IsBadLayer}
use Rattle.layer_runs.specs.Left.{CompletesAdopted, CompletesLayers, RebuildsAdopted, RefusesLayer, WritesAsUpdate}
use Rattle.layer_runs.specs.Run.{RunsLayers}

-- everything that is known of the update of an adopted image
pub record AdoptedFacts (tree : Nodes) (status : Status) (old new : States) : Type 0 where
  pub rebuilds : RebuildsAdopted tree status old new
  pub as_update : IfBothKnown old.store.held old.disk.contents (λ held content. WritesAsUpdate held tree content.now.aux)
  pub completes : CompletesAdopted tree status old new
  pub whole : LeavesWholeImage tree old.store.held status old.disk new.disk
  pub repairs : IfBothKnown old.store.held old.disk.contents (λ held content. RepairsAdopted held tree content old.disk new.disk)

pub record LayersRun (keys : List (List ℕ)) (old new : DeviceStates) (status : Status) : Type 0 where
  -- the output before the fault line
  pub before : SinkState
  pub runs : RunsLayers keys status (states_of old old.sink) (states_of new before)
  pub line : EndsWith status before new.sink
  -- the facts of the update, from the moment on at which the manifests are read
  pub facts : IfOk runs.image (λ tree. AdoptedFacts tree status (record (states_of old old.sink) { store = runs.read }) (states_of new before))
  -- the status of a layer comes only if the layer is the first one that can't be part of an image
  pub bad_layer : (number : ℕ) (kind : LayerKind) → status ≡ BadLayer number kind → IfKnown old.store.held (λ held. IsBadLayer held keys number kind)
  pub refuses : RefusesLayer keys status (states_of old old.sink) (states_of new before)
  pub completes : CompletesLayers keys status (states_of old old.sink) (states_of new before)
  pub source : new.source ≡ old.source
