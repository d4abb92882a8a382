use Rattle.std.proofs.Common.{◌≡◌, ◌+◌, ◌-◌, ◌∙◌, ap, sym, subst, arith}
use Rattle.std.specs.Ordering.{is_lt}
use Rattle.cache_reader.specs.Cache.{read}
use Rattle.cache_lookup.specs.Searches.{IsNameAt}
use Rattle.cache_lookup.proofs.Rises.{first, one_more}
use Rattle.cache_lookup.proofs.NameOrders.{is_less}
use Rattle.cache_lookup.proofs.check.first_rise.Goals as goal

pub returns-then-eq-clause-rise : goal.returns-then-eq-clause-rise
returns-then-eq-clause-rise c =
    let so_far = c.loop-index.invariant in
    first (read c.args.view.now) c.loop-index.index _ _ (omega arith) (omega arith) so_far.sorted so_far.before c.name_at-name.ensures
    (ap is_lt (sym c.compare_tokens.ensures) ∙ is_less _ _ c.if-eq.ensures)

pub loop-index-preserved : goal.loop-index-preserved
loop-index-preserved c =
    let so_far = c.loop-index.invariant in
    let last : c.loop-index.index ≡ c.loop-index.index + 1 - 1 = omega arith in
    record {
      sorted = one_more (read c.args.view.now) c.loop-index.index _ _ (omega arith) (omega arith) so_far.sorted so_far.before c.name_at-name.ensures
          (ap is_lt (sym c.compare_tokens.ensures) ∙ is_less _ _ c.if-eq.ensures);
      before = subst (λ n. IsNameAt (read c.args.view.now) n c.name_at-name.result.now) last c.name_at-name.ensures;
    }
