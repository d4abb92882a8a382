-- The lookup and the change of an entry, given its index in a tree's list.
use Rattle.std.proofs.Common.{◌≡◌, ℕ, ◌+◌, List, length, get_or, set, Some, None, sym, subst, ⊎_elim, arith}
use Rattle.std.specs.List.{insert, remove}
use Rattle.std.specs.declared.cmp.Ordering.TheVariants.{Less}
use Rattle.std.proofs.lemmas.Bool.{cases_lt}
use Rattle.std.proofs.lemmas.List.{get_or_default}
use Rattle.image_tree.proofs.Order.{path_total}
use Rattle.lib_types.proofs.SortedPairs as pairs
use Rattle.image_tree.specs.Paths.{path_cmp}
use Rattle.image_tree.specs.Tree as tree
use Rattle.image_tree.specs.Tree.{Nodes, IsPathSorted, node_at}
use Rattle.image_tree.specs.Index.{IsIndexOf, IsGapFor}
use Rattle.image_tree.specs.declared.node.Node.{Node}

module _ (t : Nodes) (path : List ℕ) (at : ℕ) where
  pub found_node : IsPathSorted t → IsIndexOf t path at → (d : List ℕ × Node) → node_at t path ≡ Some (get_or t at d).1
  found_node s p d = pairs.found_at_index path_total path t at d p.within p.same (pairs.before_index path_total t path at s p.within p.same)

  pub absent_node : IsGapFor t path at → None ≡ node_at t path
  absent_node p = sym (pairs.none_in_gap path_total path t at p.within p.before p.after)

  pub none_removed : IsGapFor t path at → t ≡ tree.remove t path
  none_removed p = pairs.kept_in_gap path_total path t at p.within p.before p.after

  pub replaced : (node : Node) (d : List ℕ × Node) → IsPathSorted t → IsIndexOf t path at → set t at ((get_or t at d).0, node) ≡ tree.put t path node
  replaced node d s p = pairs.put_at_index path_total path t at node d p.within p.same (pairs.before_index path_total t path at s p.within p.same)

  pub inserted : (node : Node) → IsGapFor t path at → insert t at (path, node) ≡ tree.put t path node
  inserted node p = pairs.put_in_gap path_total path t at node p.within p.before p.after

  pub removed : IsPathSorted t → IsIndexOf t path at → remove t at ≡ tree.remove t path
  removed s p = pairs.removed_at_index path_total path t at p.within p.same (pairs.before_index path_total t path at s p.within p.same)

  pub gap_at_end : (i : ℕ) (d : List ℕ × Node) → IsPathSorted t → length t ≡ i + 1 → path_cmp (get_or t i d).0 path ≡ Less → at ≡ length t → IsGapFor t path at
  gap_at_end i d s last less end = record {
    within = omega arith;
    before = λ k e low high. ⊎_elim
        (λ lt. path_total.trans (get_or t k e).0 (get_or t i e).0 path (pairs.below_later path_total t k i e s lt (omega arith)) (last_less e))
        (λ ge. let same : i ≡ k = omega arith in subst (λ n. path_cmp (get_or t n e).0 path ≡ Less) same (last_less e))
        (cases_lt k i);
    after = λ k e low high. absurd (omega arith);
  }
    where
      last_less : (e : List ℕ × Node) → path_cmp (get_or t i e).0 path ≡ Less
      last_less e = subst (λ z. path_cmp z.0 path ≡ Less) (get_or_default t i d e (omega arith)) less
