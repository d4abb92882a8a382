use Rattle.std.proofs.Common.{arith, eq-eqb}
use Rattle.cache_reader.proofs.Ends.{ends_at}
use Rattle.cache_reader.proofs.check.end_of_texts.Goals as goal

pub returns-else-bytes-end-ne0 : goal.returns-else-bytes-end-ne0
returns-else-bytes-end-ne0 c = ends_at c.args.bytes.now c.loop-end.end c.loop-end.invariant.0 c.loop-end.invariant.1 (λ _. eq-eqb _ _ c.if-bytes-end-ne0.false)

pub returns-after-loop-end : goal.returns-after-loop-end
returns-after-loop-end c = ends_at c.args.bytes.now c.loop-end.end c.loop-end.invariant.0 c.loop-end.invariant.1 (λ h. absurd (omega arith))
