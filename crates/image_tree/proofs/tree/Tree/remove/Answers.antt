use Rattle.std.proofs.Common.{sym, ◌∙◌, arith}
use Rattle.image_tree.proofs.Kept.{removed_tree}
use Rattle.image_tree.proofs.tree.Tree.remove.Goals as goal

pub invariant_of-self : goal.invariant_of-self
invariant_of-self c = (
  record {
    tree = rw c.remove-found.ensures.list (removed_tree _ _ c.self.invariant.0.tree);
    bounded = c.remove-found.ensures.runs;
  },
  omega (arith, c.remove-found.ensures.one c.if-found.true, c.self.invariant.1),
)

pub invariant_of-self-else-found : goal.invariant_of-self-else-found
invariant_of-self-else-found c = (
  record {
    tree = rw c.remove-found.ensures.list (removed_tree _ _ c.self.invariant.0.tree);
    bounded = c.remove-found.ensures.runs;
  },
  c.self.invariant.1 ∙ sym (c.remove-found.ensures.none c.if-found.false),
)
