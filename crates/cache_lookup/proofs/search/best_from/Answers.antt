use Rattle.std.proofs.Common.{◌≡◌, ◌+◌, ◌∙◌, ap, get_or, length, refl, subst, sym, true, arith}
use Rattle.std.specs.Ordering.{is_eq, is_lt}
use Rattle.cache_reader.specs.Cache.{CachedEntry}
use Rattle.cache_lookup.specs.Probing.{order_to, rank_of}
use Rattle.cache_lookup.specs.Searches.{IsLeast}
use Rattle.cache_lookup.proofs.Indexed.{probed}
use Rattle.cache_lookup.proofs.Least.{least_chosen, least_more}
use Rattle.cache_lookup.proofs.Runs.{more_steps, none_before, none_after, one_equal, run_steps}
use Rattle.cache_lookup.proofs.NameOrders.{is_below, is_equal}
use Rattle.cache_lookup.proofs.search.best_from.Goals as goal

pub loop-index-init : goal.loop-index-init
loop-index-init g c = record {
  entries = refl;
  equal = λ k d from to. absurd (omega arith);
  best = none_before c.args.name.now c.args.abi c.args.caps.now _ c.args.start c.requires.above;
  steps = omega arith;
}

pub loop-index-preserved : goal.loop-index-preserved
loop-index-preserved g c =
    let so_far = c.loop-index.invariant in
    let within = c.requires.within in
    let size = c.len-index-end.ensures in
    let entries = (g.P.Probes.state c.args.probes.now).entries in
    let i = c.loop-index.index in
    let order = probed (λ e. c.probe-probe.result.order ≡ order_to c.args.name.now e) _ _ i so_far.entries (omega arith) c.probe-probe.ensures.order in
    let rank = probed (λ e. c.probe-probe.result.rank ≡ rank_of c.args.name.now c.args.abi c.args.caps.now e) _ _ i so_far.entries (omega arith) c.probe-probe.ensures.rank in
    record {
      entries = c.probe-probe.ensures.entries ∙ so_far.entries;
      equal = one_equal c.args.name.now entries c.args.start i so_far.equal (λ d. ap is_eq (sym (order d)) ∙ is_equal _ _ c.if-ne.ensures);
      best = subst (IsLeast (rank_of c.args.name.now c.args.abi c.args.caps.now) entries (i + 1)) (sym c.better-best.ensures)
          (least_more (rank_of c.args.name.now c.args.abi c.args.caps.now) entries i c.loop-index.best _ so_far.best (λ d. sym (rank d)));
      steps = more_steps _ _ _ c.args.start i (omega arith) so_far.steps c.probe-probe.ensures.steps;
    }

pub returns-then-ne-clause-chosen : goal.returns-then-ne-clause-chosen
returns-then-ne-clause-chosen g c =
    let so_far = c.loop-index.invariant in
    let within = c.requires.within in
    let size = c.len-index-end.ensures in
    let entries = (g.P.Probes.state c.args.probes.now).entries in
    let i = c.loop-index.index in
    let order = probed (λ e. c.probe-probe.result.order ≡ order_to c.args.name.now e) _ _ i so_far.entries (omega arith) c.probe-probe.ensures.order in
    let below : (d : CachedEntry) → is_lt (order_to c.args.name.now (get_or entries i d)) ≡ true = λ d. is_below _ (ap is_eq (sym (order d)) ∙ is_equal _ _ c.if-ne.ensures) (c.requires.others i d (omega arith) (omega arith)) in
    c.index_of.ensures
    ∙ least_chosen entries c.args.name.now c.args.abi c.args.caps.now c.loop-index.best
    (none_after c.args.name.now c.args.abi c.args.caps.now entries c.requires.sorted i c.loop-index.best (omega arith) so_far.best below)

pub returns-then-ne-clause-steps : goal.returns-then-ne-clause-steps
returns-then-ne-clause-steps g c =
    let so_far = c.loop-index.invariant in
    let size = c.len-index-end.ensures in
    let within = c.requires.within in
    let step = c.probe-probe.ensures.steps in
    run_steps c.args.name.now _ c.args.start c.loop-index.index _ _ _ (omega arith) (omega arith) so_far.equal so_far.steps (omega (arith, step))

pub returns-clause-chosen : goal.returns-clause-chosen
returns-clause-chosen g c =
    let so_far = c.loop-index.invariant in
    let size = c.len-index-end.ensures in
    let within = c.requires.within in
    let entries = (g.P.Probes.state c.args.probes.now).entries in
    let e : c.loop-index.index ≡ length entries = omega arith in
    c.index_of-2.ensures
    ∙ least_chosen entries c.args.name.now c.args.abi c.args.caps.now c.loop-index.best
    (subst (λ n. IsLeast (rank_of c.args.name.now c.args.abi c.args.caps.now) entries n c.loop-index.best) e so_far.best)

pub returns-clause-steps : goal.returns-clause-steps
returns-clause-steps g c =
    let so_far = c.loop-index.invariant in
    let size = c.len-index-end.ensures in
    let within = c.requires.within in
    run_steps c.args.name.now _ c.args.start c.loop-index.index _ _ _ (omega arith) (omega arith) so_far.equal so_far.steps (omega arith)
