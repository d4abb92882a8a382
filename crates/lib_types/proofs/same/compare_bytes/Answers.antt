use Rattle.std.proofs.Common.{◌<◌, length, ◌∙◌, arith}
use Rattle.lib_types.proofs.ByteOrder.{lengths_decide_order}
use Rattle.lib_types.proofs.same.compare_bytes.Goals as goal

pub returns : goal.returns
returns c =
    let n = c.equal_len-same.result in
    let front = c.equal_len-same.ensures in
    let ended : n < length c.args.a.now → n < length c.args.b.now → ⊥
    = λ p q. omega arith in
    c.cmp-2.ensures ∙ lengths_decide_order c.args.a.now c.args.b.now n front.within.0 front.within.1 front.same ended
