-- The strings fit, and the bytes are the file of the stamps.
use Rattle.std.proofs.Common.{◌∙◌, ℕ, List, ap, arith, length}
use Rattle.string_pool.specs.InOrder.{Strings, table_of}
use Rattle.aux_cache.specs.AuxFile.{damage, stamps_in}
use Rattle.aux_cache.specs.AuxText.{strings}
use Rattle.aux_cache.proofs.Adding.{strings_small}
use Rattle.aux_cache.proofs.Back.{written, all_back, undamaged}
use Rattle.aux_cache.proofs.Joining.{joined}
use Rattle.aux_cache.proofs.writer.write.Goals as goal

pub of-requires : goal.of-requires
of-requires c =
    let same = c.in_ok-numbered.ensures.texts ∙ ap strings c.as_slice-stamps.ensures.stamps in
    let small = strings_small c.args.stamps.now c.requires.recordable in
    omega (arith, small, ap (λ ts. length (table_of ts)) same, c.requires.few)

pub overflow_cast-bytes : goal.overflow_cast-bytes
overflow_cast-bytes c =
    let same = ap (λ s. s.texts) c.in_ok-strings.ensures ∙ c.in_ok-numbered.ensures.texts ∙ ap strings c.as_slice-stamps.ensures.stamps in
    let small = strings_small c.args.stamps.now c.requires.recordable in
    omega (arith, small, ap (λ ts. length (table_of ts)) same, ap length c.bytes-bytes.ensures, c.requires.few)

pub put_records-requires-clause-recordable : goal.put_records-requires-clause-recordable
put_records-requires-clause-recordable c = rw (c.deref.ensures.value, c.in_ok-numbered.ensures.stamps, c.as_slice-stamps.ensures.stamps) c.requires.recordable

pub returns-clause-bytes : goal.returns-clause-bytes
returns-clause-bytes c =
    let ys = c.as_slice-stamps.result.now in
    let made : List (List ℕ) → Strings = λ ts. record { base = 0; texts = ts } in
    let texts = c.in_ok-strings.ensures ∙ ap made c.in_ok-numbered.ensures.texts in
    rw (c.in_ok-extend_from_slice.ensures.items, c.in_ok-put_records.ensures.bytes, c.in_ok-put_header.ensures, c.deref.ensures.value)
    (joined c.args.stamps.now ys c.in_ok-numbered.numbered.items c.in_ok-strings.strings c.in_ok-out.out.items c.bytes-bytes.result.now c.as_slice-stamps.ensures.stamps c.in_ok-numbered.ensures.stamps texts c.in_ok-out.ensures.items c.bytes-bytes.ensures)

pub returns-clause-undamaged : goal.returns-clause-undamaged
returns-clause-undamaged c =
    let ys = c.as_slice-stamps.result.now in
    let whole = written c.args.stamps.now ys c.requires.few c.requires.recordable c.as_slice-stamps.ensures.sorted c.as_slice-stamps.ensures.stamps
    (rw c.in_ok-numbered.ensures.stamps at (rw c.deref.ensures.value at c.in_ok-put_records.ensures.range)) in
    ap damage (returns-clause-bytes c) ∙ undamaged c.args.stamps.now whole

pub returns-clause-read_back : goal.returns-clause-read_back
returns-clause-read_back c =
    let ys = c.as_slice-stamps.result.now in
    let whole = written c.args.stamps.now ys c.requires.few c.requires.recordable c.as_slice-stamps.ensures.sorted c.as_slice-stamps.ensures.stamps
    (rw c.in_ok-numbered.ensures.stamps at (rw c.deref.ensures.value at c.in_ok-put_records.ensures.range)) in
    ap stamps_in (returns-clause-bytes c) ∙ all_back c.args.stamps.now whole
