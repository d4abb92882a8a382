use Rattle.std.proofs.Common.{◌≡◌, Err, arith, ◌++◌, codes}
use Rattle.std.proofs.lemmas.Grind.{common_steps}
use Rattle.cache_reader.proofs.Putting.{then, stop}
use Rattle.cache_reader.proofs.printing.put_first.Goals as goal

pub returns-in_err-put_decimal : goal.returns-in_err-put_decimal
returns-in_err-put_decimal g c =
    let failed : c.from_residual.result ≡ Err c.in_err-put_decimal.field-0.0 = grind (arith, common_steps) in
    rw failed (stop (codes " libs found in cache `" ++ c.args.name.now ++ codes "'\n") c.in_err-put_decimal.ensures)

pub returns : goal.returns
returns g c = then c.in_ok-put_decimal.ensures c.put_between.ensures
