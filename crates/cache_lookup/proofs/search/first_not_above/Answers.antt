use Rattle.std.proofs.Common.{◌≡◌, ◌+◌, ◌-◌, ◌/◌, ◌∙◌, ap, sym, arith}
use Rattle.std.specs.Ordering.{is_gt}
use Rattle.cache_lookup.specs.Probing.{order_to}
use Rattle.cache_lookup.proofs.Halving.{halved}
use Rattle.cache_lookup.proofs.Indexed.{probed}
use Rattle.cache_lookup.proofs.NameOrders.{above, is_greater, not_above}
use Rattle.cache_lookup.proofs.search.first_not_above.Goals as goal

pub loop-low-preserved-then-eq : goal.loop-low-preserved-then-eq
loop-low-preserved-then-eq g c =
    let so_far = c.loop-low.invariant in
    let within = so_far.within in
    let high = so_far.high in
    let some = c.loop-low-test.true in
    let middle = c.loop-low.low + (c.loop-low.high - c.loop-low.low) / 2 in
    let order = probed (λ e. c.probe.result.order ≡ order_to c.args.name.now e) _ _ middle so_far.entries (omega arith) c.probe.ensures.order in
    record {
      within = omega arith;
      high = high;
      entries = c.probe.ensures.entries ∙ so_far.entries;
      above = λ k d h. above _ c.requires c.args.name.now k middle d (omega arith) (omega arith) (ap is_gt (sym (order d)) ∙ is_greater _ _ c.if-eq.ensures);
      others = so_far.others;
      steps = λ k h. halved k _ _ _ (c.loop-low.high - c.loop-low.low) _ (so_far.steps k h) (omega arith) (omega arith) c.probe.ensures.steps;
    }

pub loop-low-preserved : goal.loop-low-preserved
loop-low-preserved g c =
    let so_far = c.loop-low.invariant in
    let within = so_far.within in
    let high = so_far.high in
    let some = c.loop-low-test.true in
    let middle = c.loop-low.low + (c.loop-low.high - c.loop-low.low) / 2 in
    let order = probed (λ e. c.probe.result.order ≡ order_to c.args.name.now e) _ _ middle so_far.entries (omega arith) c.probe.ensures.order in
    record {
      within = omega arith;
      high = omega arith;
      entries = c.probe.ensures.entries ∙ so_far.entries;
      above = so_far.above;
      others = λ k d h inside. not_above _ c.requires c.args.name.now middle k d (omega arith) inside (ap is_gt (sym (order d)) ∙ is_greater _ _ c.if-eq.ensures);
      steps = λ k h. halved k _ _ _ (c.loop-low.high - c.loop-low.low) _ (so_far.steps k h) (omega arith) (omega arith) c.probe.ensures.steps;
    }
