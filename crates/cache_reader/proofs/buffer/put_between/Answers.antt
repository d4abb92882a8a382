use Rattle.std.proofs.Common.{◌≡◌, Err, arith}
use Rattle.std.proofs.lemmas.Grind.{common_steps}
use Rattle.cache_reader.proofs.Putting.{then, stop}
use Rattle.cache_reader.proofs.buffer.put_between.Goals as goal

pub returns-in_err-put : goal.returns-in_err-put
returns-in_err-put g c =
    let failed : c.from_residual.result ≡ Err c.in_err-put.field-0.0 = grind (arith, common_steps) in
    rw failed (stop c.args.after.now (stop c.args.text.now c.in_err-put.ensures))

pub returns-in_err-put-2 : goal.returns-in_err-put-2
returns-in_err-put-2 g c =
    let failed : c.from_residual-in_err-put-2.result ≡ Err c.in_err-put-2.field-0.0 = grind (arith, common_steps) in
    rw failed (stop c.args.after.now (then c.in_ok-put.ensures c.in_err-put-2.ensures))

pub returns : goal.returns
returns g c = then (then c.in_ok-put.ensures c.in_ok-put-2.ensures) c.put-3.ensures
