use Rattle.std.proofs.Common.{◌≡◌, Err, arith}
use Rattle.std.proofs.lemmas.Grind.{common_steps}
use Rattle.cache_reader.proofs.Putting.{whole, whole_failed}
use Rattle.cache_reader.proofs.printing.print.Goals as goal

pub returns-in_err-put_cache : goal.returns-in_err-put_cache
returns-in_err-put_cache g c =
    let failed : c.from_residual.result ≡ Err c.in_err-put_cache.field-0.0 = grind (arith, common_steps) in
    rw failed (whole_failed c.new-buffer.ensures c.in_err-put_cache.ensures)

pub returns : goal.returns
returns g c = whole c.new-buffer.ensures c.flush.ensures.empty c.in_ok-put_cache.ensures c.flush.ensures.puts
