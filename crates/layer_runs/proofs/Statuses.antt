-- Which statuses the command never has, and which only layers have.
use Rattle.std.proofs.Common.{◌≡◌, ℕ, List, Result, Ok, Err, ap, sym, subst, ◌∙◌}
use Rattle.command_status.specs.Status.{of_load, of_update}
use Rattle.command_status.specs.declared.status.LayerKind.{LayerKind}
use Rattle.command_status.specs.declared.status.Status.{Status}
use Rattle.command_status.specs.declared.status.Status.TheVariants.{BadLayer, Usage}
use Rattle.image_session.specs.Session.{Loaded}
use Rattle.image_session.specs.declared.fault.LoadFault.{LoadFault}
use Rattle.image_session.specs.declared.fault.LoadFault.TheVariants as loading
use Rattle.image_tree.specs.Tree.{Nodes}
use Rattle.ldconfig_core.specs.declared.fault.UpdateFault.{UpdateFault}
use Rattle.ldconfig_core.specs.declared.fault.UpdateFault.TheVariants as updating
use Rattle.script_runs.proofs.NotUsage.{after_else}
use Rattle.script_runs.specs.declared.fault.ScriptFault.{ScriptFault}
use Rattle.script_runs.specs.declared.fault.ScriptFault.TheVariants.{Line, NoMemory, Updating}
use Rattle.script_runs.specs.Faults.{status_of}
use Rattle.script_runs.specs.Stored.{AfterLoad, one_update}
use Rattle.tree_face.specs.Known.{IfKnown}
use Rattle.update_runs.specs.Update.{States}
use Rattle.update_runs.specs.declared.fault.UpdatingFault.TheVariants.{OutputFault, Update}
use Rattle.layer_runs.specs.Faults.{of_image}
use Rattle.layer_runs.specs.Image.{IsBadLayer, ReadsImage}
use Rattle.layer_runs.specs.Run.{AfterImage, RunsLayers, tag}
use Rattle.layer_runs.specs.declared.fault.ImageFault.{ImageFault}
use Rattle.layer_runs.specs.declared.fault.ImageFault.TheVariants as faults

-- ---- arguments without a command

image_else : (fault : ImageFault) → of_image fault ≡ Usage → ⊥
image_else faults.StoreFault e = absurd (cc)
image_else (faults.BadLayer number kind) e = absurd (cc)
image_else faults.NoMemory e = absurd (cc)

pub no_usage : (keys : List (List ℕ)) (status : Status) (old new : States) → RunsLayers keys status old new → status ≡ Usage → ⊥
no_usage keys status old new run = by run.image run.after
  where
    by : (image : Result Nodes ImageFault) → AfterImage image status (record old { store = run.read }) new → status ≡ Usage → ⊥
    by (Ok tree) after e = after_else tag one_update after.adopted status _ new after.after e
    by (Err fault) after e = image_else fault (sym after.0 ∙ e)

-- ---- a layer that can't be part of an image

module _ (number : ℕ) (kind : LayerKind) where
  load_no_layer : (fault : LoadFault) → of_load fault ≡ BadLayer number kind → ⊥
  load_no_layer (loading.DiskFailed slot) e = absurd (cc)
  load_no_layer loading.NoManifest e = absurd (cc)
  load_no_layer (loading.BadManifest fault) e = absurd (cc)
  load_no_layer loading.NoMemory e = absurd (cc)

  update_no_layer : (fault : UpdateFault) → of_update fault ≡ BadLayer number kind → ⊥
  update_no_layer updating.StoreFault e = absurd (cc)
  update_no_layer (updating.TooLarge nodes bytes) e = absurd (cc)
  update_no_layer (updating.TooMany count) e = absurd (cc)
  update_no_layer (updating.DiskFault fault) e = absurd (cc)
  update_no_layer updating.NoMemory e = absurd (cc)

  script_no_layer : (to : Result Loaded ScriptFault) → status_of to ≡ BadLayer number kind → ⊥
  script_no_layer (Ok session) e = absurd (cc)
  script_no_layer (Err (Line line why)) e = absurd (cc)
  script_no_layer (Err (Updating (Update fault))) e = update_no_layer fault e
  script_no_layer (Err (Updating OutputFault)) e = absurd (cc)
  script_no_layer (Err NoMemory) e = absurd (cc)

  after_no_layer : (adopted : Result Loaded LoadFault) (status : Status) (old new : States) → AfterLoad tag one_update adopted status old new → status ≡ BadLayer number kind → ⊥
  after_no_layer (Ok s) status old new (to, (is, runs)) e = script_no_layer to (sym is ∙ e)
  after_no_layer (Err fault) status old new (is, same) e = load_no_layer fault (sym is ∙ e)

  abbrev by_status : Status → ImageFault
  by_status (BadLayer layer why) = faults.BadLayer layer why
  by_status status = faults.NoMemory

  -- the fault of the image is the one that the status says
  fault_is : (fault : ImageFault) → of_image fault ≡ BadLayer number kind → fault ≡ faults.BadLayer number kind
  fault_is faults.StoreFault e = absurd (cc)
  fault_is (faults.BadLayer other why) e = ap by_status e
  fault_is faults.NoMemory e = absurd (cc)

  pub is_bad_layer : (keys : List (List ℕ)) (status : Status) (old new : States) → RunsLayers keys status old new → status ≡ BadLayer number kind
      → IfKnown old.store.held (λ held. IsBadLayer held keys number kind)
  is_bad_layer keys status old new run = by run.image run.reads run.after
    where
      by : (image : Result Nodes ImageFault) → ReadsImage keys image old.store run.read → AfterImage image status (record old { store = run.read }) new → status ≡ BadLayer number kind
          → IfKnown old.store.held (λ held. IsBadLayer held keys number kind)
      by (Ok tree) reads after e = absurd (after_no_layer after.adopted status _ new after.after e)
      by (Err fault) reads after e =
          (subst (λ (fault : ImageFault). ReadsImage keys (Err fault) old.store run.read) (fault_is fault (sym after.0 ∙ e)) reads).image
