-- What the update of an adopted image leaves.
use Rattle.std.specs.Prelude.{◌≡◌, ◌⊎◌, ℕ, List, Some, Ok}
use Rattle.command_status.specs.declared.status.LayerKind.{LayerKind}
use Rattle.command_status.specs.declared.status.Status.{Status}
use Rattle.command_status.specs.declared.status.Status.TheVariants.{BadLayer, Done, NoMemory, StoreFault}
use Rattle.hwcap_dirs.specs.declared.kinds.Scope.TheVariants.{Image}
use Rattle.image_session.specs.Adopted.{adopted_with}
use Rattle.image_session.specs.Session.{Loaded, image_with}
use Rattle.image_tree.specs.Tree.{Nodes}
use Rattle.ldconfig_core.specs.Texts.{AreTextsOf, UpdateTexts}
use Rattle.lib_types.specs.Counts.{HasRisen}
use Rattle.library_search.specs.Ldconfig.{planned_in}
use Rattle.mtree_manifest.specs.Canon.{canon}
use Rattle.script_runs.specs.Course.{course}
use Rattle.script_runs.specs.Stored.{IsRebuilt, IsUnloaded, NoneRose, one_update}
use Rattle.tree_face.specs.Devices.{IfBothKnown}
use Rattle.tree_face.specs.Disk.{Content}
use Rattle.tree_face.specs.Known.{IfKnown}
use Rattle.tree_face.specs.Store.{Contents}
use Rattle.update_runs.specs.Update.{States}
use Rattle.layer_runs.specs.Image.{IsBadLayer, MakeImage}

-- The manifest of the tree with its planned links is written. All other texts are those of an update of the other image.
pub record AreAsUpdate (held : Contents) (s : Loaded) (texts others : UpdateTexts) : Type 0 where
  pub manifest : texts.manifest ≡ Some (canon (planned_in Image held s.tree s.stamps))
  pub cache : texts.cache ≡ others.cache
  pub aux : texts.aux ≡ others.aux
  pub report : texts.report ≡ others.report

-- An update of an adopted tree writes the same cache, auxiliary cache and report as an update that reads a manifest of this tree, with the
-- same Aux slot.
abbrev pub WritesAsUpdate : Contents → Nodes → Content → Type 0
WritesAsUpdate held tree aux = (texts others : UpdateTexts) → AreTextsOf Image held (adopted_with tree aux) texts → AreTextsOf Image held (image_with tree aux) others
    → AreAsUpdate held (adopted_with tree aux) texts others

-- the image of the tree is updated, or it can't be adopted
abbrev pub RebuildsAdopted : Nodes → Status → States → States → Type 0
RebuildsAdopted tree status old new =
    IfBothKnown old.store.held old.disk.contents (λ held content.
    IsUnloaded status content old new ⊎ IsRebuilt held one_update (adopted_with tree content.now.aux) status content old new)

-- if the update can be made, it is made, unless a device fails or memory runs out
abbrev pub CompletesAdopted : Nodes → Status → States → States → Type 0
CompletesAdopted tree status old new =
    IfBothKnown old.store.held old.disk.contents (λ held content.
    NoneRose old new → (session : Loaded) → (course held 1 one_update (adopted_with tree content.now.aux)).end ≡ Ok session → (status ≡ Done) ⊎ (status ≡ NoMemory))

-- ---- from the start

-- the status is that of this layer, or the store counted an error, or memory ran out
abbrev pub ComesOut : ℕ → LayerKind → Status → States → States → Type 0
ComesOut number kind status old new =
    (status ≡ BadLayer number kind) ⊎ (((status ≡ StoreFault) × HasRisen old.store.faults new.store.faults) ⊎ (status ≡ NoMemory))

-- if a layer can't be part of an image, the status of the first one comes, unless the store fails or memory runs out
abbrev pub RefusesLayer : List (List ℕ) → Status → States → States → Type 0
RefusesLayer keys status old new =
    IfKnown old.store.held (λ held. (number : ℕ) (kind : LayerKind) → IsBadLayer held keys number kind → ComesOut number kind status old new)

-- if the layers make an image whose update can be made, it is made, unless a device fails or memory runs out
abbrev pub CompletesLayers : List (List ℕ) → Status → States → States → Type 0
CompletesLayers keys status old new =
    IfBothKnown old.store.held old.disk.contents (λ held content. (tree : Nodes) → MakeImage held keys tree
    → NoneRose old new → (session : Loaded) → (course held 1 one_update (adopted_with tree content.now.aux)).end ≡ Ok session → (status ≡ Done) ⊎ (status ≡ NoMemory))
