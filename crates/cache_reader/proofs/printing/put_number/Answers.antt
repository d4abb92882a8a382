use Rattle.std.proofs.Common.{◌≡◌, Err, arith, ap}
use Rattle.std.proofs.lemmas.Grind.{common_steps}
use Rattle.std.specs.Fmt.{decimal}
use Rattle.cache_reader.proofs.Putting.{then, stop, same_text}
use Rattle.cache_reader.proofs.printing.put_number.Goals as goal

pub returns-in_err-put : goal.returns-in_err-put
returns-in_err-put g c =
    let failed : c.from_residual.result ≡ Err c.in_err-put.field-0.0 = grind (arith, common_steps) in
    rw failed (stop (decimal c.args.number) c.in_err-put.ensures)

pub returns : goal.returns
returns g c = then c.in_ok-put.ensures (same_text (ap decimal c.from.ensures) c.put_decimal.ensures)
