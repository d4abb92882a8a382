-- The image that layers make: the union of the trees of their manifests.
use Rattle.std.specs.Prelude.{◌≡◌, ℕ, suc, List, length, take, Some, Result, Ok, Err, ⊤}
use Rattle.command_status.specs.declared.status.LayerKind.{LayerKind}
use Rattle.command_status.specs.declared.status.LayerKind.TheVariants.{Full, Manifest, Whiteout}
use Rattle.image_tree.specs.Tree.{Nodes}
use Rattle.layer_trees.specs.Layers.{Faulty, HasTrees, LacksLayer, layers_of, most_read}
use Rattle.layer_union.specs.Union.{AreSound, IsBadAt, IsTooLarge, IsUnion}
use Rattle.tree_face.specs.Known.{IfKnown}
use Rattle.tree_face.specs.Store.{Contents, StoreState}
use Rattle.tree_face.specs.StoreUse.{Ending, Complete, DeviceFailed, GaveUp, ReadsFiles}
use Rattle.layer_runs.specs.declared.fault.ImageFault.{ImageFault}
use Rattle.layer_runs.specs.declared.fault.ImageFault.TheVariants.{BadLayer, NoMemory, StoreFault}

-- the layers under these keys make the image of this tree
pub record MakeImage (held : Contents) (keys : List (List ℕ)) (tree : Nodes) : Type 0 where
  pub trees : List Nodes
  pub are : layers_of held keys ≡ HasTrees trees
  pub union : IsUnion trees tree
  pub sound : AreSound trees (length trees)

-- each layer has a tree, and this holds of the trees
abbrev pub OfTrees : Contents → List (List ℕ) → (List Nodes → Type 0) → Type 0
OfTrees held keys P = (trees : List Nodes) × ((layers_of held keys ≡ HasTrees trees) × P trees)

-- the layer with this number is the first one that can't be part of an image; all texts are tried before the union
abbrev pub IsBadLayer : Contents → List (List ℕ) → ℕ → LayerKind → Type 0
IsBadLayer held keys number (Manifest fault) = layers_of held keys ≡ Faulty number fault
IsBadLayer held keys number (Whiteout node) = OfTrees held keys (λ trees. IsBadAt trees number node)
IsBadLayer held keys number Full = OfTrees held keys (λ trees. IsTooLarge trees number)

-- ---- reading it

abbrev pub IsOfImage : Contents → List (List ℕ) → Result Nodes ImageFault → Type 0
IsOfImage held keys (Ok tree) = MakeImage held keys tree
IsOfImage held keys (Err (BadLayer number kind)) = IsBadLayer held keys number kind
IsOfImage held keys (Err StoreFault) = ⊤
IsOfImage held keys (Err NoMemory) = ⊤

-- the manifests that are read: all, or those up to the first one that has no tree
abbrev pub keys_by : List (List ℕ) → ℕ → LayerKind → List (List ℕ)
keys_by keys number (Manifest fault) = take (suc number) keys
keys_by keys number (Whiteout node) = keys
keys_by keys number Full = keys

abbrev pub image_keys : List (List ℕ) → Result Nodes ImageFault → List (List ℕ)
image_keys keys (Err (BadLayer number kind)) = keys_by keys number kind
image_keys keys (Ok tree) = keys
image_keys keys (Err StoreFault) = keys
image_keys keys (Err NoMemory) = keys

abbrev pub image_ending : Result Nodes ImageFault → Ending
image_ending (Ok tree) = Complete
image_ending (Err (BadLayer number kind)) = Complete
image_ending (Err StoreFault) = DeviceFailed
image_ending (Err NoMemory) = GaveUp

-- The manifests are read in order, each once, before the union is made.
pub record ReadsImage (keys : List (List ℕ)) (result : Result Nodes ImageFault) (old new : StoreState) : Type 0 where
  pub image : IfKnown old.held (λ held. IsOfImage held keys result)
  pub reads : ReadsFiles (LacksLayer old.held keys) (Some (image_keys keys result)) (Some (most_read keys)) (image_ending result) old new
