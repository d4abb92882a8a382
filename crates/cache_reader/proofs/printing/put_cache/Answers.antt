use Rattle.std.proofs.Common.{◌≡◌, Err, arith, ℕ, flat_map, ap}
use Rattle.std.proofs.lemmas.Grind.{common_steps}
use Rattle.cache_reader.specs.Cache.{read, generator}
use Rattle.cache_reader.specs.Printed.{entry_line, first_line, last_line}
use Rattle.cache_reader.proofs.Putting.{then, stop, same_text}
use Rattle.cache_reader.proofs.printing.put_cache.Goals as goal

pub returns-in_err-put_first : goal.returns-in_err-put_first
returns-in_err-put_first g c =
    let failed : c.from_residual.result ≡ Err c.in_err-put_first.field-0.0 = grind (arith, common_steps) in
    rw failed (stop (last_line (generator c.args.view.now)) (stop (flat_map entry_line (read c.args.view.now)) (same_text (ap (λ (n : ℕ). first_line n c.args.name.now) c.len.ensures.value) c.in_err-put_first.ensures)))

pub returns-in_err-put_entries : goal.returns-in_err-put_entries
returns-in_err-put_entries g c =
    let failed : c.from_residual-in_err-put_entries.result ≡ Err c.in_err-put_entries.field-0.0 = grind (arith, common_steps) in
    rw failed (stop (last_line (generator c.args.view.now)) (then (same_text (ap (λ (n : ℕ). first_line n c.args.name.now) c.len.ensures.value) c.in_ok-put_first.ensures) c.in_err-put_entries.ensures))

pub returns : goal.returns
returns g c = then (then (same_text (ap (λ (n : ℕ). first_line n c.args.name.now) c.len.ensures.value) c.in_ok-put_first.ensures) c.in_ok-put_entries.ensures) (same_text (ap last_line c.generator.ensures) c.put_generator.ensures)
