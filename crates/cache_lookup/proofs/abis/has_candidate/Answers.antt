use Rattle.std.proofs.Common.{◌∙◌, arith, sym}
use Rattle.cache_lookup.proofs.EntryAbis.{candidate, no_candidate}
use Rattle.cache_lookup.proofs.abis.has_candidate.Goals as goal

pub returns-then-is_candidate : goal.returns-then-is_candidate
returns-then-is_candidate c =
    let size = c.len-index-end.ensures.value in
    sym (candidate _ c.loop-index.index _ (omega arith) c.entry_at.ensures c.args.name.now c.args.abi (sym c.is_candidate.ensures ∙ c.if-is_candidate.true)) ∙ c.loop-index.invariant

pub loop-index-preserved : goal.loop-index-preserved
loop-index-preserved c =
    let size = c.len-index-end.ensures.value in
    no_candidate _ c.loop-index.index _ (omega arith) c.entry_at.ensures c.args.name.now c.args.abi (sym c.is_candidate.ensures ∙ c.if-is_candidate.false) ∙ c.loop-index.invariant
