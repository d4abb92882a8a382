-- The steps in which the manifests of layers are read.
use Rattle.std.specs.Prelude.{◌≡◌, ◌⊎◌, ◌++◌, ◌≤◌, ℕ, List, [], ◌∷◌, length, Some, Result, Ok, Err, IfOk, IfErr, Vec, ⊤}
use Rattle.std.specs.declared.alloc.Global.{Global}
use Rattle.image_tree.specs.Tree.{Nodes}
use Rattle.mtree_manifest.specs.Manifest.{outcome}
use Rattle.mtree_manifest.specs.declared.fault.ManifestFault.{ManifestFault}
use Rattle.mtree_manifest.specs.declared.fault.TheConstants.{MANIFEST_MAX}
use Rattle.tree_face.specs.Known.{IfKnown}
use Rattle.tree_face.specs.Store.{Contents, Lacks, StoreState}
use Rattle.tree_face.specs.StoreUse.{Ending, Complete, DeviceFailed, GaveUp, ReadsFiles}
use Rattle.layer_trees.specs.Faults.{numbered}
use Rattle.layer_trees.specs.declared.fault.LayerFault.{LayerFault}
use Rattle.layer_trees.specs.declared.fault.LayerFault.TheVariants.{Bad, NoMemory, StoreFault}
use Rattle.layer_trees.specs.declared.fault.LayersFault.{LayersFault}
use Rattle.layer_trees.specs.declared.fault.LayersFault.TheVariants as all

abbrev pub layer_ending : {A : Type 0} → Result A LayerFault → Ending
layer_ending (Ok tree) = Complete
layer_ending (Err (Bad fault)) = Complete
layer_ending (Err StoreFault) = DeviceFailed
layer_ending (Err NoMemory) = GaveUp

-- the store holds a text under the key, which reads as this tree or has this first error
pub record HoldsManifest (held : Contents) (key : List ℕ) (result : Result Nodes ManifestFault) : Type 0 where
  pub text : List ℕ
  pub there : held key ≡ Some text
  pub reads : outcome text ≡ result

-- a fact about the error of a manifest
abbrev pub IfBad : {A : Type 0} → Result A LayerFault → (ManifestFault → Type 0) → Type 0
IfBad (Ok tree) P = ⊤
IfBad (Err (Bad fault)) P = P fault
IfBad (Err StoreFault) P = ⊤
IfBad (Err NoMemory) P = ⊤

abbrev pub ReadsOne : List ℕ → Ending → StoreState → StoreState → Type 0
ReadsOne key ending old new = ReadsFiles (Lacks old.held key) (Some (key ∷ [])) (Some MANIFEST_MAX) ending old new

-- the text under the key, if it isn't too long
pub record ReadsText (key : List ℕ) (result : Result (Vec ℕ Global) LayerFault) (old new : StoreState) : Type 0 where
  pub text : IfOk result (λ text. IfKnown old.held (λ held. held key ≡ Some text.items))
  pub bad : IfBad result (λ fault. IfKnown old.held (λ held. HoldsManifest held key (Err fault)))
  pub reads : ReadsOne key (layer_ending result) old new

-- the tree of the manifest under the key
pub record ReadsLayer (key : List ℕ) (result : Result Nodes LayerFault) (old new : StoreState) : Type 0 where
  pub tree : IfOk result (λ tree. IfKnown old.held (λ held. HoldsManifest held key (Ok tree)))
  pub bad : IfBad result (λ fault. IfKnown old.held (λ held. HoldsManifest held key (Err fault)))
  pub reads : ReadsOne key (layer_ending result) old new

-- the reading goes on after a layer, unless memory runs out, or ends with its fault
abbrev pub GoesOn : ℕ → Result Nodes LayerFault → (Nodes → Type 0) → Result (List Nodes) LayersFault → StoreState → StoreState → Type 0
GoesOn number (Ok tree) Rest result between new = Rest tree ⊎ ((result ≡ Err all.NoMemory) × (new ≡ between))
GoesOn number (Err fault) Rest result between new = (result ≡ Err (numbered number fault)) × (new ≡ between)

-- the layers under the keys that are left are read, after layers with these trees
abbrev pub ReadsRest : List Nodes → List (List ℕ) → Result (List Nodes) LayersFault → StoreState → StoreState → Type 0
ReadsRest trees [] result old new = (result ≡ Ok trees) × (new ≡ old)
ReadsRest trees (key ∷ keys) result old new =
    (one : Result Nodes LayerFault) × ((between : StoreState) × (ReadsLayer key one old between
    × GoesOn (length trees) one (λ tree. ReadsRest (trees ++ tree ∷ []) keys result between new) result between new))
