use Rattle.std.proofs.Common.{◌≡◌, Err, arith, ap}
use Rattle.std.proofs.lemmas.Grind.{common_steps}
use Rattle.cache_reader.specs.Printed.{kind, abi, abi_number}
use Rattle.cache_reader.proofs.Putting.{then, stop, same_text}
use Rattle.cache_reader.proofs.printing.put_name.Goals as goal

pub returns-in_err-put_between : goal.returns-in_err-put_between
returns-in_err-put_between g c =
    let failed : c.from_residual.result ≡ Err c.in_err-put_between.field-0.0 = grind (arith, common_steps) in
    rw failed (stop (abi (abi_number c.args.flags)) (stop (kind c.args.flags) c.in_err-put_between.ensures))

pub returns-in_err-put : goal.returns-in_err-put
returns-in_err-put g c =
    let failed : c.from_residual-in_err-put.result ≡ Err c.in_err-put.field-0.0 = grind (arith, common_steps) in
    rw failed (stop (abi (abi_number c.args.flags)) (then c.in_ok-put_between.ensures (same_text c.kind.ensures c.in_err-put.ensures)))

pub returns : goal.returns
returns g c = then (then c.in_ok-put_between.ensures (same_text c.kind.ensures c.in_ok-put.ensures)) (same_text (ap abi c.abi_number.ensures) c.put_abi.ensures)
