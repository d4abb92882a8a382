-- The trees of layers, whose manifests a store holds under keys (mtree(5)). The lowest layer is the first one.
use Rattle.std.specs.Prelude.{◌≡◌, ◌+◌, ℕ, suc, List, [], ◌∷◌, take, Option, Some, None, Result, Ok, Err, ⊤}
use Rattle.std.specs.Option.{IsSomeAnd}
use Rattle.image_tree.specs.Tree.{Nodes}
use Rattle.mtree_manifest.specs.Manifest.{outcome}
use Rattle.mtree_manifest.specs.declared.fault.ManifestFault.{ManifestFault}
use Rattle.mtree_manifest.specs.declared.fault.TheConstants.{MANIFEST_MAX}
use Rattle.tree_face.specs.Known.{IfKnown}
use Rattle.tree_face.specs.Store.{Contents, StoreState}
use Rattle.tree_face.specs.StoreUse.{Ending, Complete, DeviceFailed, GaveUp, ReadsFiles}
use Rattle.layer_trees.specs.declared.fault.LayersFault.{LayersFault}
use Rattle.layer_trees.specs.declared.fault.LayersFault.TheVariants.{Bad, NoMemory, StoreFault}

pub data Layers : Type 0 where
  -- each text is the manifest of a tree
  HasTrees : List Nodes → Layers
  -- the text with this number isn't the manifest of a tree, and this is its first error; each text before it is one
  Faulty : ℕ → ManifestFault → Layers
  -- the store doesn't hold a text, and each text before it is the manifest of a tree
  Lacking : Layers

-- a layer below other ones
abbrev pub with_tree : Nodes → Layers → Layers
with_tree tree (HasTrees trees) = HasTrees (tree ∷ trees)
with_tree tree (Faulty number fault) = Faulty number fault
with_tree tree Lacking = Lacking

abbrev pub by_outcome : ℕ → Result Nodes ManifestFault → Layers → Layers
by_outcome number (Ok tree) above = with_tree tree above
by_outcome number (Err fault) above = Faulty number fault

abbrev pub by_text : ℕ → Option (List ℕ) → Layers → Layers
by_text number None above = Lacking
by_text number (Some text) above = by_outcome number (outcome text) above

-- the layers under these keys, of which the first one has this number
abbrev pub layers_from : Contents → ℕ → List (List ℕ) → Layers
layers_from held number [] = HasTrees []
layers_from held number (key ∷ keys) = by_text number (held key) (layers_from held (1 + number) keys)

-- layers are counted from 0
abbrev pub layers_of : Contents → List (List ℕ) → Layers
layers_of held keys = layers_from held 0 keys

-- ---- reading them

abbrev pub layers_ending : {A : Type 0} → Result A LayersFault → Ending
layers_ending (Ok trees) = Complete
layers_ending (Err (Bad layer fault)) = Complete
layers_ending (Err StoreFault) = DeviceFailed
layers_ending (Err NoMemory) = GaveUp

-- the result is that of the layers, unless the store failed or memory ran out
abbrev pub IsOfLayers : Layers → Result (List Nodes) LayersFault → Type 0
IsOfLayers layers (Ok trees) = layers ≡ HasTrees trees
IsOfLayers layers (Err (Bad layer fault)) = layers ≡ Faulty layer fault
IsOfLayers layers (Err StoreFault) = ⊤
IsOfLayers layers (Err NoMemory) = ⊤

-- the keys up to that of a text that isn't the manifest of a tree
abbrev pub keys_read : List (List ℕ) → Result (List Nodes) LayersFault → List (List ℕ)
keys_read keys (Err (Bad layer fault)) = take (suc layer) keys
keys_read keys (Ok trees) = keys
keys_read keys (Err StoreFault) = keys
keys_read keys (Err NoMemory) = keys

-- the most bytes that are read of manifests under these keys
abbrev pub most_read : List (List ℕ) → ℕ
most_read [] = 0
most_read (key ∷ keys) = MANIFEST_MAX + most_read keys

-- the contents of the store are known, and it doesn't hold the text of a layer
abbrev pub LacksLayer : Option Contents → List (List ℕ) → Type 0
LacksLayer known keys = IsSomeAnd known (λ held. layers_of held keys ≡ Lacking)

-- The manifests are read in order, each once, up to the first one that has no tree. A text that is too long isn't read.
pub record ReadsTrees (keys : List (List ℕ)) (result : Result (List Nodes) LayersFault) (old new : StoreState) : Type 0 where
  pub layers : IfKnown old.held (λ held. IsOfLayers (layers_of held keys) result)
  pub reads : ReadsFiles (LacksLayer old.held keys) (Some (keys_read keys result)) (Some (most_read keys)) (layers_ending result) old new
