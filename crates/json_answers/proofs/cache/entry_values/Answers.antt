use Rattle.std.proofs.Common.{◌<◌, ◌∙◌, length, ap, arith}
use Rattle.cache_reader.specs.Cache.{read}
use Rattle.json_answers.specs.Cached.{entry_data}
use Rattle.json_answers.proofs.Steps.{value_more}
use Rattle.json_answers.proofs.cache.entry_values.Goals as goal

pub loop-index-preserved : goal.loop-index-preserved
loop-index-preserved c =
    let below : c.loop-index.index < length (read c.args.cache.now) = omega (arith, c.len-index-end.ensures.value) in
    rw c.in_ok-push.ensures.items (value_more c.args.cache.now c.loop-index.index c.loop-index.values.items c.in_ok-entry_value.field-0 below c.loop-index.invariant
    (c.in_ok-entry_value.ensures ∙ ap entry_data c.entry_within.ensures))
