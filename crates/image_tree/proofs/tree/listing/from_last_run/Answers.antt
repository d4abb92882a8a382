use Rattle.std.proofs.Common.{rules, arith, ◌∙◌}
use Rattle.image_tree.proofs.AllOfChild.{after_last, run_skipped}
use Rattle.image_tree.proofs.tree.listing.from_last_run.Goals as goal

pub loop-first-preserved : goal.loop-first-preserved
loop-first-preserved c = record {
  sorted = after_last _ _ _ _ c.loop-first.invariant.sorted c.in-Some.ensures.last;
  few = omega (arith, c.loop-first.invariant.few, c.in-Some.ensures.fewer);
  same = λ folder name node whole.
      run_skipped folder name c.args.child.now whole node _ _ _ c.loop-first.invariant.sorted c.in-Some.ensures.last (search rules) ∙ c.loop-first.invariant.same folder name node whole;
}
