-- Layers make one image, or one of them is the first that can't be part of an image.
use Rattle.std.proofs.Common.{◌≡◌, ℕ, List, ap, refl, subst}
use Rattle.command_status.specs.declared.status.LayerKind.{LayerKind}
use Rattle.command_status.specs.declared.status.LayerKind.TheVariants.{Full, Manifest, Whiteout}
use Rattle.image_tree.specs.Tree.{Nodes}
use Rattle.layer_trees.specs.Layers.{Faulty, HasTrees, Lacking, Layers, layers_of}
use Rattle.layer_union.proofs.OneUnion.{none_bad, none_large, one_bad, one_kind, one_large, one_union}
use Rattle.layer_union.specs.Union.{IsBadAt, IsTooLarge, IsUnion}
use Rattle.mtree_manifest.specs.declared.fault.ManifestFault.{ManifestFault}
use Rattle.tree_face.specs.Store.{Contents}
use Rattle.layer_runs.specs.Image.{IsBadLayer, MakeImage, OfTrees}

same_trees : (l : Layers) (t u : List Nodes) → l ≡ HasTrees t → l ≡ HasTrees u → u ≡ t
same_trees l t u a b = cc

same_fault : (l : Layers) (n m : ℕ) (f g : ManifestFault) → l ≡ Faulty n f → l ≡ Faulty m g → (n ≡ m) × (f ≡ g)
same_fault l n m f g a b = (cc, cc)

no_trees : (l : Layers) (n : ℕ) (f : ManifestFault) (t : List Nodes) → l ≡ Faulty n f → l ≡ HasTrees t → ⊥
no_trees l n f t a b = absurd (cc)

lacks_none : (l : Layers) (t : List Nodes) → l ≡ Lacking → l ≡ HasTrees t → ⊥
lacks_none l t a b = absurd (cc)

lacks_no_fault : (l : Layers) (n : ℕ) (f : ManifestFault) → l ≡ Lacking → l ≡ Faulty n f → ⊥
lacks_no_fault l n f a b = absurd (cc)

module _ (held : Contents) (keys : List (List ℕ)) where
  -- a fact of the trees, about trees that are known
  of_these : (t : List Nodes) → layers_of held keys ≡ HasTrees t → (P : List Nodes → Type 0) → OfTrees held keys P → P t
  of_these t are P (u, (there, fact)) = subst P (same_trees (layers_of held keys) t u are there) fact

  pub one_layer : (n m : ℕ) (j k : LayerKind) → IsBadLayer held keys n j → IsBadLayer held keys m k → (n ≡ m) × (j ≡ k)
  one_layer n m (Manifest f) (Manifest g) a b = let same = same_fault (layers_of held keys) n m f g a b in (same.0, ap Manifest same.1)
  one_layer n m (Manifest f) (Whiteout y) a (t, (are, b)) = absurd (no_trees (layers_of held keys) n f t a are)
  one_layer n m (Manifest f) Full a (t, (are, b)) = absurd (no_trees (layers_of held keys) n f t a are)
  one_layer n m (Whiteout x) (Manifest g) (t, (are, a)) b = absurd (no_trees (layers_of held keys) m g t b are)
  one_layer n m (Whiteout x) (Whiteout y) (t, (are, a)) b =
      let same = one_bad t n x m y a (of_these t are (λ trees. IsBadAt trees m y) b) in (same.0, ap Whiteout same.1)
  one_layer n m (Whiteout x) Full (t, (are, a)) b = absurd (one_kind t n x m a (of_these t are (λ trees. IsTooLarge trees m) b))
  one_layer n m Full (Manifest g) (t, (are, a)) b = absurd (no_trees (layers_of held keys) m g t b are)
  one_layer n m Full (Whiteout y) (t, (are, a)) b = absurd (one_kind t m y n (of_these t are (λ trees. IsBadAt trees m y) b) a)
  one_layer n m Full Full (t, (are, a)) b = (one_large t n m a (of_these t are (λ trees. IsTooLarge trees m) b), refl)

  module _ (tree : Nodes) (image : MakeImage held keys tree) where
    pub no_bad_layer : (n : ℕ) (k : LayerKind) → IsBadLayer held keys n k → ⊥
    no_bad_layer n (Manifest f) a = no_trees (layers_of held keys) n f image.trees a image.are
    no_bad_layer n (Whiteout x) a = none_bad image.trees image.sound n x (of_these image.trees image.are (λ trees. IsBadAt trees n x) a)
    no_bad_layer n Full a = none_large image.trees image.sound n (of_these image.trees image.are (λ trees. IsTooLarge trees n) a)

    pub one_image : (other : Nodes) → MakeImage held keys other → other ≡ tree
    one_image other is =
        let same : is.trees ≡ image.trees = same_trees (layers_of held keys) image.trees is.trees image.are is.are in
        one_union image.trees other tree (subst (λ (trees : List Nodes). IsUnion trees other) same is.union) image.union

    pub none_lacking : layers_of held keys ≡ Lacking → ⊥
    none_lacking e = lacks_none (layers_of held keys) image.trees e image.are

  pub bad_not_lacking : (n : ℕ) (k : LayerKind) → IsBadLayer held keys n k → layers_of held keys ≡ Lacking → ⊥
  bad_not_lacking n (Manifest f) a e = lacks_no_fault (layers_of held keys) n f e a
  bad_not_lacking n (Whiteout x) (t, (are, a)) e = lacks_none (layers_of held keys) t e are
  bad_not_lacking n Full (t, (are, a)) e = lacks_none (layers_of held keys) t e are
