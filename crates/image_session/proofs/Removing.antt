-- Removing a path that isn't in a tree.
use Rattle.std.proofs.Common.{◌≡◌, ◌∷◌, ℕ, Bool, true, false, List, [], Some, is_some, cond, ap, refl}
use Rattle.std.proofs.lemmas.Bool.{true≢false}
use Rattle.std.specs.Map.{lookup, remove_entry}
use Rattle.image_tree.specs.Tree.{Nodes, node_at, remove}

module _ {K X : Type 0} (test : K → Bool) where
  -- an entry in front of a list that removal leaves unchanged
  kept_after : (here : Bool) (e : K × X) (es : List (K × X)) → (is_some (lookup test es) ≡ false → remove_entry test es ≡ es) → is_some (cond here (Some e.1) (lookup test es)) ≡ false
      → cond here es (e ∷ remove_entry test es) ≡ e ∷ es
  kept_after true e es rest none = absurd (true≢false none)
  kept_after false e es rest none = ap (λ rest. e ∷ rest) (rest none)

  kept : (es : List (K × X)) → is_some (lookup test es) ≡ false → remove_entry test es ≡ es
  kept [] none = refl
  kept (e ∷ es) none = kept_after (test e.0) e es (kept es) none

-- the path has no node
pub kept_tree : (tree : Nodes) (path : List ℕ) → is_some (node_at tree path) ≡ false → remove tree path ≡ tree
kept_tree tree path none = kept _ tree none
