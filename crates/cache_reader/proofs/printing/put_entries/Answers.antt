use Rattle.std.proofs.Common.{◌≡◌, Err, arith, ◌+◌, ◌<◌, length, drop, flat_map, sym, ap}
use Rattle.std.proofs.lemmas.Grind.{common_steps}
use Rattle.cache_reader.specs.Cache.{read}
use Rattle.cache_reader.specs.Printed.{entry_line}
use Rattle.cache_reader.proofs.Listed.{line_more, line_rest}
use Rattle.cache_reader.proofs.Putting.{then, stop, same_text}
use Rattle.cache_reader.proofs.printing.put_entries.Goals as goal

pub returns-in_err-put_entry : goal.returns-in_err-put_entry
returns-in_err-put_entry g c =
    let failed : c.from_residual.result ≡ Err c.in_err-put_entry.field-0.0 = grind (arith, common_steps) in
    let below : c.loop-index.index < length (read c.args.view.now) = omega (arith, c.len-index-end.ensures.value) in
    rw failed (same_text (line_rest c.args.view.now c.loop-index.index below) (stop (flat_map entry_line (drop (c.loop-index.index + 1) (read c.args.view.now))) (then c.loop-index.invariant (same_text (ap entry_line c.entry_within.ensures) c.in_err-put_entry.ensures))))

pub loop-index-preserved : goal.loop-index-preserved
loop-index-preserved g c =
    let below : c.loop-index.index < length (read c.args.view.now) = omega (arith, c.len-index-end.ensures.value) in
    same_text (sym (line_more c.args.view.now c.loop-index.index below)) (then c.loop-index.invariant (same_text (ap entry_line c.entry_within.ensures) c.in_ok-put_entry.ensures))
