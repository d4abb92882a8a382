use Rattle.std.proofs.Common.{rules, ap, sym, ◌∙◌, subst}
use Rattle.std.specs.List.{dedup_from}
use Rattle.image_tree.proofs.AllOfChild.{after_tail}
use Rattle.image_tree.proofs.Names.{child_skipped}
use Rattle.image_tree.specs.After.{AreSortedAfter}
use Rattle.image_tree.specs.Runs.{children_after, is_same_child}
use Rattle.image_tree.proofs.tree.listing.skip_child.Goals as goal

pub from_last_run-rest-requires : goal.from_last_run-rest-requires
from_last_run-rest-requires c = after_tail c.args.child.now (c.in-Some.entry.path.now, c.in-Some.entry.node.now) _ (subst (AreSortedAfter c.args.child.now) c.in-Some.ensures c.loop-entry.invariant.sorted)

pub loop-entry-preserved : goal.loop-entry-preserved
loop-entry-preserved c = record {
  sorted = c.from_last_run-rest.ensures.sorted;
  same = λ folder name node whole.
      c.from_last_run-rest.ensures.same folder name node whole
      ∙ sym (child_skipped folder name node (c.in-Some.entry.path.now, c.in-Some.entry.node.now) c.in-Some.more (search rules))
      ∙ ap (λ t. dedup_from is_same_child (name, node) (children_after folder t)) (sym c.in-Some.ensures) ∙ c.loop-entry.invariant.same folder name node whole;
}
