-- The index of a path in a tree's list, or the index at which it would be inserted.
use Rattle.std.specs.Prelude.{◌≡◌, ℕ, ◌<◌, ◌≤◌, Bool, false, List, ◌&&◌, not, length}
use Rattle.std.specs.List.{list_any, AllWithin, HoldsAt}
use Rattle.std.specs.Ordering.{is_gt}
use Rattle.std.specs.declared.cmp.Ordering.TheVariants.{Less, Equal, Greater}
use Rattle.image_tree.specs.Paths.{path_cmp, is_below}
use Rattle.image_tree.specs.Tree.{Nodes}
use Rattle.image_tree.specs.Node.{is_dir}
use Rattle.image_tree.specs.declared.node.Node.{Node}

-- the entry at this index has the path
pub record IsIndexOf (t : Nodes) (path : List ℕ) (index : ℕ) : Type 0 where
  pub within : index < length t
  pub same : HoldsAt (λ e. path_cmp e.0 path ≡ Equal) t index

-- no entry has the path, and it would be inserted at this index
pub record IsGapFor (t : Nodes) (path : List ℕ) (index : ℕ) : Type 0 where
  pub within : index ≤ length t
  pub before : AllWithin (λ e. path_cmp e.0 path ≡ Less) t 0 index
  pub after : AllWithin (λ e. path_cmp e.0 path ≡ Greater) t index (length t)

-- the entries from this index on are the ones after the path
pub record IsAfter (t : Nodes) (path : List ℕ) (index : ℕ) : Type 0 where
  pub within : index ≤ length t
  pub before : AllWithin (λ e. is_gt (path_cmp e.0 path) ≡ false) t 0 index
  pub after : AllWithin (λ e. path_cmp e.0 path ≡ Greater) t index (length t)

-- the entry is a file or link above the path
abbrev pub is_file_above : List ℕ → List ℕ × Node → Bool
is_file_above path e = is_below e.0 path && not (is_dir e.1)

-- the path lies below a file or link
abbrev pub has_file_above : Nodes → List ℕ → Bool
has_file_above t path = list_any (is_file_above path) t
