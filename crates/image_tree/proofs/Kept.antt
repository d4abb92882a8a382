-- `put` and `remove` keep a tree valid.
use Rattle.std.proofs.Common.{◌≡◌, ℕ, ◌<◌, ◌≤◌, Bool, true, false, cond, List, [], ◌∷◌, length, Result, Ok, Err, arith}
use Rattle.std.proofs.lemmas.Bool.{and_from}
use Rattle.std.proofs.lemmas.List.{length-set}
use Rattle.std.proofs.lemmas.List.Edits.{length-insert}
use Rattle.std.specs.BTreeMap.{is_at}
use Rattle.std.specs.Map.{remove_entry}
use Rattle.std.specs.Result.{MatchResult, IfErr}
use Rattle.image_tree.proofs.Order.{path_total}
use Rattle.lib_types.proofs.SortedPairs as pairs
use Rattle.image_tree.specs.Node.{is_node}
use Rattle.image_tree.specs.Paths.{path_cmp, is_path}
use Rattle.image_tree.specs.Tree as tree
use Rattle.image_tree.specs.Tree.{Nodes, IsTree, is_entry}
use Rattle.image_tree.specs.Index.{IsIndexOf, IsGapFor}
use Rattle.image_tree.specs.Runs.{joined, index_of, IsPlaceOf, IsGapAt}
use Rattle.image_tree.specs.declared.node.Node.{Node}
use Rattle.image_tree.specs.declared.tree.runs.Place.{Place}
use Rattle.image_tree.proofs.Clear.{all_put, all_removed, clear_put, clear_removed}
use Rattle.image_tree.proofs.Index.{replaced, inserted}
use Rattle.image_tree.specs.Tree.{clashes}
use Rattle.image_tree.specs.declared.tree.TheConstants.{NODES_MAX}

fewer_removed : (test : List ℕ → Bool) (t : Nodes) → length (remove_entry test t) ≤ length t
fewer_removed test [] = omega arith
fewer_removed test (e ∷ t) = let h = fewer_removed test t in elim (test e.0) as (λ b. length (cond b t (e ∷ remove_entry test t)) ≤ length (e ∷ t)) [ true ↦ omega arith | false ↦ omega arith ]

module _ (t : Nodes) (path : List ℕ) (node : Node) (free : clashes t path node ≡ false) where
  pub put_tree : IsTree t → is_path path ≡ true → is_node node ≡ true → length (tree.put t path node) ≤ NODES_MAX → IsTree (tree.put t path node)
  put_tree h p n few = record { sorted = pairs.sorted_put path_total path t node h.sorted; entries = all_put is_entry t path node h.entries (and_from _ _ p n); few = few; clear = clear_put t path node p h.clear free }

  pub replaced_tree : (at : ℕ) → IsTree t → IsIndexOf t path at → is_path path ≡ true → is_node node ≡ true → IsTree (tree.put t path node)
  replaced_tree at h p q n = put_tree h q n (rw (← replaced t path at node (path, node) h.sorted p, length-set) h.few)

  pub inserted_tree : (at : ℕ) → IsTree t → IsGapFor t path at → is_path path ≡ true → is_node node ≡ true → length t < NODES_MAX → IsTree (tree.put t path node)
  inserted_tree at h p q n few = put_tree h q n (rw (← inserted t path at node p) (let k = length-insert t at (path, node) p.within in omega arith))

-- putting a node at the place that a search found for its path keeps the tree valid
pub tree_put : (runs : List Nodes) (path : List ℕ) (node : Node) → clashes (joined runs) path node ≡ false → (found : Result Place Place) → MatchResult found (IsPlaceOf runs path) (IsGapAt runs path)
    → IfErr found (λ _. length (joined runs) < NODES_MAX) → IsTree (joined runs) → is_path path ≡ true → is_node node ≡ true → IsTree (tree.put (joined runs) path node)
tree_put runs path node free (Ok place) p room h q n = replaced_tree (joined runs) path node free (index_of runs place) h p.index q n
tree_put runs path node free (Err place) p room h q n = inserted_tree (joined runs) path node free (index_of runs place) h p.gap q n room

pub removed_tree : (t : Nodes) (path : List ℕ) → IsTree t → IsTree (tree.remove t path)
removed_tree t path h = let k = fewer_removed (is_at (path_cmp path)) t in record { sorted = pairs.sorted_removed path_total (is_at (path_cmp path)) t h.sorted; entries = all_removed is_entry _ t h.entries; few = omega (arith, h.few); clear = clear_removed t (is_at (path_cmp path)) h.clear }
