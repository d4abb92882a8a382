-- The image that layers make, from the trees that were read and their union.
use Rattle.std.proofs.Common.{◌≡◌, ℕ, List, Option, Some, None, Result, Ok, Err, length, refl}
use Rattle.image_tree.specs.Tree.{Nodes}
use Rattle.layer_trees.specs.Layers.{HasTrees, LacksLayer, ReadsTrees, layers_of, most_read}
use Rattle.layer_trees.specs.declared.fault.LayersFault.{LayersFault}
use Rattle.layer_trees.specs.declared.fault.LayersFault.TheVariants as reading
use Rattle.layer_union.specs.Union.{AreSound, IsBadAt, IsTooLarge, IsUnion}
use Rattle.layer_union.specs.declared.layers.UnionFault.{UnionFault}
use Rattle.layer_union.specs.declared.layers.UnionFault.TheVariants as joining
use Rattle.tree_face.proofs.StoreUse.{reads_all}
use Rattle.tree_face.specs.Known.{IfKnown}
use Rattle.tree_face.specs.Store.{Contents, StoreState}
use Rattle.layer_runs.specs.Faults.{of_trees, of_union}
use Rattle.layer_runs.specs.Image.{MakeImage, OfTrees, ReadsImage}
use Rattle.layer_trees.proofs.Whole.{anyway}

abbrev failed : UnionFault → Result Nodes UnionFault
failed fault = Err fault

module _ (keys : List (List ℕ)) (a b : StoreState) where
  pub unread : (fault : LayersFault) → ReadsTrees keys (Err fault) a b → ReadsImage keys (Err (of_trees fault)) a b
  unread reading.StoreFault first = record { image = anyway a.held; reads = first.reads }
  unread (reading.Bad number fault) first = record { image = first.layers; reads = first.reads }
  unread reading.NoMemory first = record { image = anyway a.held; reads = first.reads }

  module _ (trees : List Nodes) (first : ReadsTrees keys (Ok trees) a b) where
    of_trees_read : (P : List Nodes → Type 0) → P trees → (known : Option Contents) → IfKnown known (λ held. layers_of held keys ≡ HasTrees trees) → IfKnown known (λ held. OfTrees held keys P)
    of_trees_read P is None layers = tt
    of_trees_read P is (Some held) layers = (trees, (layers, is))

    pub not_joined : (fault : UnionFault) → ((layer node : ℕ) → failed fault ≡ failed (joining.BadWhiteout layer node) → IsBadAt trees layer node) → ((layer : ℕ) → failed fault ≡ failed (joining.Full layer) → IsTooLarge trees layer)
        → ReadsImage keys (Err (of_union fault)) a b
    not_joined (joining.BadWhiteout layer node) bad full = record { image = of_trees_read (λ trees. IsBadAt trees layer node) (bad layer node refl) a.held first.layers; reads = first.reads }
    not_joined (joining.Full layer) bad full = record { image = of_trees_read (λ trees. IsTooLarge trees layer) (full layer refl) a.held first.layers; reads = first.reads }
    not_joined joining.NoMemory bad full = record { image = anyway a.held; reads = reads_all (Some keys) (Some (most_read keys)) a b (LacksLayer a.held keys) first.reads }

    module _ (tree : Nodes) (union : IsUnion trees tree) (sound : AreSound trees (length trees)) where
      makes : (known : Option Contents) → IfKnown known (λ held. layers_of held keys ≡ HasTrees trees) → IfKnown known (λ held. MakeImage held keys tree)
      makes None layers = tt
      makes (Some held) layers = record { trees = trees; are = layers; union = union; sound = sound }

      pub was_joined : ReadsImage keys (Ok tree) a b
      was_joined = record { image = makes a.held first.layers; reads = first.reads }
