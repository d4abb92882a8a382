use Rattle.image_tree.proofs.Kept.{tree_put}
use Rattle.image_tree.proofs.tree.Tree.put.Goals as goal

pub invariant_of-self-2 : goal.invariant_of-self-2
invariant_of-self-2 c = (
  record {
    tree = rw c.in_ok-self-inside.ensures.done
        (tree_put c.self.inside.runs.items _ _ c.in_ok-found.ensures.free c.in_ok-found.found c.in_ok-found.ensures.found c.in_ok-found.ensures.room c.self.invariant.0.tree c.requires.path c.requires.node);
    bounded = c.put_at.ensures.runs;
  },
  c.in_ok-self-inside.ensures.count,
)
