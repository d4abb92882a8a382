use Rattle.std.proofs.Common.{◌≡◌, Err, arith}
use Rattle.std.proofs.lemmas.Grind.{common_steps}
use Rattle.cache_reader.specs.Printed.{hex_digits}
use Rattle.cache_reader.proofs.Putting.{then, stop, same_text}
use Rattle.cache_reader.proofs.printing.put_hex.Goals as goal

pub returns-in_err-put : goal.returns-in_err-put
returns-in_err-put g c =
    let failed : c.from_residual.result ≡ Err c.in_err-put.field-0.0 = grind (arith, common_steps) in
    rw failed (stop (hex_digits c.args.number) c.in_err-put.ensures)

pub returns : goal.returns
returns g c = then c.in_ok-put.ensures (same_text c.hex_digits.ensures c.put-2.ensures)
