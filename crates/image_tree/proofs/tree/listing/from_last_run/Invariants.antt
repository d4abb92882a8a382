use Rattle.std.proofs.Common.{◌≡◌, ◌≤◌, List, ℕ, Option, length}
use Rattle.std.specs.List.{dedup_from}
use Rattle.image_tree.specs.After.{AreSortedAfter}
use Rattle.image_tree.specs.Runs.{IsPathOfChild, children_after, is_same_child}
use Rattle.image_tree.specs.declared.node.Node.{Node}
use Rattle.image_tree.proofs.tree.listing.from_last_run.Given as goal

abbrev pub invariant-loop-first : goal.invariant-loop-first
invariant-loop-first l = record {
  sorted : AreSortedAfter l.child l.rest;
  few : length l.rest ≤ length l.fn.entries;
  same : (folder name : List ℕ) (node : Option Node) → IsPathOfChild folder name l.child
      → dedup_from is_same_child (name, node) (children_after folder l.rest) ≡ dedup_from is_same_child (name, node) (children_after folder l.fn.entries);
}

abbrev pub decreases-loop-first : goal.decreases-loop-first
decreases-loop-first l = length l.rest
