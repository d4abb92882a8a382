-- A view of a tree: the tree, and what was looked up in it so far.
use Rattle.std.specs.Prelude.{◌≡◌, ℕ, Bool, true, false, List, []}
use Rattle.image_tree.specs.Tree.{Nodes}
use Rattle.seen_tree.specs.Seen.{with_dirs, with_paths}

pub record ViewState : Type 0 where
  pub tree : Nodes
  -- whether all of the tree is there, so that nothing has to be looked up
  pub whole : Bool
  -- the paths that were looked up, and the directories that were listed
  pub looked : List (List ℕ)
  pub listed : List (List ℕ)

-- all of a tree
abbrev pub whole : Nodes → ViewState
whole t = record { tree = t; whole = true; looked = []; listed = [] }

-- it is the view of the same tree
pub record IsSameView (old new : ViewState) : Type 0 where
  pub tree : new.tree ≡ old.tree
  pub whole : new.whole ≡ old.whole

-- Of these paths and directories all were looked up in addition, except those that are left. If all of the tree is there, nothing is said.
pub record LooksBut (paths left dirs dirs_left : List (List ℕ)) (old new : ViewState) : Type 0 where
  pub looked : old.whole ≡ false → with_paths new.looked left ≡ with_paths old.looked paths
  pub listed : old.whole ≡ false → with_dirs new.listed dirs_left ≡ with_dirs old.listed dirs

-- exactly these paths were looked up in addition, and exactly these directories were listed in addition
abbrev pub LooksUp : List (List ℕ) → List (List ℕ) → ViewState → ViewState → Type 0
LooksUp paths dirs old new = LooksBut paths [] dirs [] old new
