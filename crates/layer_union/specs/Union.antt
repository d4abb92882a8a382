-- The union of an image's layers, which are listed from the lowest one up (OCI image-spec, layer.md, "Applying Changesets").
use Rattle.std.specs.Prelude.{◌≡◌, ◌↔◌, ℕ, ◌+◌, ◌<◌, ◌≤◌, false, List, [], ◌∷◌, length, take, position, slice_index_or, Option, Some, None, ◌⊎◌}
use Rattle.std.specs.List.{list_any}
use Rattle.image_tree.specs.Tree.{Nodes, IsPathSorted, node_at}
use Rattle.image_tree.specs.declared.node.Node.{Node}
use Rattle.image_tree.specs.declared.tree.TheConstants.{NODES_MAX}
use Rattle.layer_union.specs.Hiding.{hides}
use Rattle.layer_union.specs.Whiteouts.{is_bad, is_special}

-- the layer has the node at the path, the path isn't special, and none of the layers above hides the node
pub record IsShown (layer : Nodes) (above : List Nodes) (path : List ℕ) (node : Node) : Type 0 where
  pub here : node_at layer path ≡ Some node
  pub plain : is_special path ≡ false
  pub free : list_any (λ l. hides l (path, node)) above ≡ false

-- one of the layers shows the node
abbrev pub IsVisible : List Nodes → List ℕ → Node → Type 0
IsVisible [] path node = ⊥
IsVisible (layer ∷ above) path node = IsShown layer above path node ⊎ IsVisible above path node

-- the visible nodes, in the order of their paths
pub record IsUnion (layers : List Nodes) (union : Nodes) : Type 0 where
  pub sorted : IsPathSorted union
  pub nodes : (path : List ℕ) (node : Node) → (node_at union path ≡ Some node) ↔ IsVisible layers path node

-- the index of the first whiteout in the layer at this index whose rest isn't a name
abbrev pub bad_mark : List Nodes → ℕ → Option ℕ
bad_mark layers k = position (λ e. is_bad e.0) (slice_index_or layers k [])

-- the layer has no bad whiteout, and the union of the layers up to it is small enough for a tree
pub record IsSound (layers : List Nodes) (k : ℕ) : Type 0 where
  pub marks : bad_mark layers k ≡ None
  pub few : (u : Nodes) × (IsUnion (take (k + 1) layers) u) × (length u ≤ NODES_MAX)

-- the first n layers are sound
abbrev pub AreSound : List Nodes → ℕ → Type 0
AreSound layers n = (k : ℕ) → k < n → IsSound layers k

-- the first layer that isn't sound has its first bad whiteout at this node
pub record IsBadAt (layers : List Nodes) (layer node : ℕ) : Type 0 where
  pub within : layer < length layers
  pub before : AreSound layers layer
  pub mark : bad_mark layers layer ≡ Some node

-- the first layer that isn't sound has no bad whiteout, but the union of the layers up to it is too large for a tree
pub record IsTooLarge (layers : List Nodes) (layer : ℕ) : Type 0 where
  pub within : layer < length layers
  pub before : AreSound layers layer
  pub marks : bad_mark layers layer ≡ None
  pub many : (u : Nodes) × (IsUnion (take (layer + 1) layers) u) × (NODES_MAX < length u)
