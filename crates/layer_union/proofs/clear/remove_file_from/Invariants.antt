use Rattle.std.proofs.Common.{◌≡◌}
use Rattle.image_tree.specs.Tree.{IsTree}
use Rattle.layer_union.proofs.Upward.{without_file}
use Rattle.layer_union.proofs.clear.remove_file_from.Given as goal
use Rattle.layer_union.specs.Steps.{way_up}

-- the file or link at this path or above it is the one that is looked for
abbrev pub invariant-loop-at : goal.invariant-loop-at
invariant-loop-at l = record {
  tree : l.tree ≡ l.fn.tree;
  valid : IsTree l.tree;
  same : without_file l.at l.tree ≡ without_file l.fn.path l.tree;
}

abbrev pub decreases-loop-at : goal.decreases-loop-at
decreases-loop-at l = way_up l.at
