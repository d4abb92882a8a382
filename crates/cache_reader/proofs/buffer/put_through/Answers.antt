use Rattle.std.proofs.Common.{◌≡◌, Err, arith}
use Rattle.std.proofs.lemmas.Grind.{common_steps}
use Rattle.cache_reader.proofs.Putting.{then, stop, passed_on}
use Rattle.cache_reader.proofs.buffer.put_through.Goals as goal

pub returns-in_err-flush : goal.returns-in_err-flush
returns-in_err-flush g c =
    let failed : c.from_residual.result ≡ Err c.in_err-flush.field-0.0 = grind (arith, common_steps) in
    rw failed (stop c.args.text.now c.in_err-flush.ensures.puts)

pub returns : goal.returns
returns g c =
    let passed = passed_on c.args.text.now (g.O.Sink.state c.flush.new.sink) (g.O.Sink.state c.put_all.new.sink) c.put_all.result c.put_all.ensures in
    rw c.in_ok-flush.ensures.empty (then (rw c.in_ok-flush.ensures.empty at c.in_ok-flush.ensures.puts) passed)
