-- One more text has the next number.
use Rattle.std.proofs.Common.{refl, rules}
use Rattle.std.proofs.lemmas.List.{map_more}
use Rattle.string_pool.proofs.Sorted.{numbered_more}
use Rattle.string_pool.proofs.backward.with_numbers.Goals as goal

pub loop-text-preserved : goal.loop-text-preserved
loop-text-preserved c =
    let ts = c.args.texts.now in
    let i = c.loop-text.text-index in
    let next = map_more (λ text. text.now) ts i _ c.loop-text-test.true in
    numbered_more _ _ _ _ _ _ c.loop-text.invariant next c.in_ok-push.ensures.items (search rules) refl
