-- The steps in which the nodes that a layer hides are removed, and its nodes are put.
use Rattle.std.specs.Prelude.{◌≡◌, ℕ, ◌+◌, ◌<◌, Bool, true, List, [], ◌∷◌, ◌&&◌, ◌||◌, not, length, position, if◌then◌else◌, Some, None}
use Rattle.std.specs.List.{filter, list_all, list_any}
use Rattle.std.specs.Str.{bytes_eq}
use Rattle.image_tree.specs.Node.{is_dir}
use Rattle.image_tree.specs.Paths.{is_below, is_path, root}
use Rattle.image_tree.specs.Tree.{Nodes, clash_with, clashes, put}
use Rattle.image_tree.specs.declared.node.Node.{Node}
use Rattle.layer_union.specs.Hiding.{is_plain}
use Rattle.image_tree.specs.declared.tree.TheConstants.{NODES_MAX}
use Rattle.layer_union.specs.Whiteouts.{is_bad, is_special, makes_opaque, whites_out}
use Rattle.layer_union.specs.declared.layers.UnionFault.{UnionFault}
use Rattle.layer_union.specs.declared.layers.UnionFault.TheVariants.{BadWhiteout, Full, NoMemory}

-- the other path is this one or lies below it
abbrev pub is_from : List ℕ → List ℕ → Bool
is_from path q = bytes_eq path q || is_below path q

-- the entry is a file or link at the path or above it
abbrev pub is_file_from : List ℕ → List ℕ × Node → Bool
is_file_from path e = not (is_dir e.1) && (bytes_eq path e.0 || is_below e.0 path)

-- the child lies directly below the path, and an entry is at the child or below it
pub record IsChild (t : Nodes) (path child : List ℕ) : Type 0 where
  pub below : is_below path child ≡ true
  pub proper : is_path child ≡ true
  pub longer : length path < length child
  pub some : list_any (λ e. is_from child e.0) t ≡ true

-- the entry r of a layer makes the entry e of the tree below it go before the layer's nodes are put
abbrev pub clears : List ℕ × Node → List ℕ × Node → Bool
clears r e = whites_out r.0 e.0 || makes_opaque r.0 e.0 || (is_plain r && clash_with r.0 r.1 e)

-- the tree after the layer's nodes are put
abbrev pub all_put : Nodes → Nodes → Nodes
all_put t [] = t
all_put t (r ∷ layer) = all_put (if is_special r.0 then t else put t r.0 r.1) layer

-- the layer's nodes don't clash with the entries of the tree
abbrev pub IsFree : Nodes → Nodes → Type 0
IsFree t layer = list_all (λ r. is_special r.0 || not (clashes t r.0 r.1)) layer ≡ true

-- the tree with what the layer hides removed, and the layer's nodes put
abbrev pub applied : Nodes → Nodes → Nodes
applied t layer = all_put (filter (λ e. not (list_any (λ r. clears r e) layer)) t) layer

-- a fault of this layer that is a bad whiteout has the index of the first one
abbrev pub IsBadFault : Nodes → ℕ → UnionFault → Type 0
IsBadFault layer index (BadWhiteout l node) = (l ≡ index) × (position (λ e. is_bad e.0) layer ≡ Some node)
IsBadFault layer index (Full l) = Unit {0}
IsBadFault layer index NoMemory = Unit {0}

-- if the layer's fault is Full, it has no bad whiteout, and the result would be too large
abbrev pub IsFullFault : Nodes → Nodes → ℕ → UnionFault → Type 0
IsFullFault t layer index (BadWhiteout l node) = Unit {0}
IsFullFault t layer index (Full l) = (l ≡ index) × (position (λ e. is_bad e.0) layer ≡ None) × (NODES_MAX < length (applied t layer))
IsFullFault t layer index NoMemory = Unit {0}

-- a measure of the way up to the root
abbrev pub way_up : List ℕ → ℕ
way_up path = if bytes_eq path root then 0 else 1 + length path
