use Rattle.std.proofs.Common.{rules, ◌≡◌, Err}
use Rattle.image_session.proofs.Readings.{stored_fails}
use Rattle.image_session.proofs.reading.read_stored.Goals as goal

pub returns-in_err-read_slot : goal.returns-in_err-read_slot
returns-in_err-read_slot g c =
    let same : c.from_residual.result ≡ Err c.in_err-read_slot.field-0.0 = search rules in
    rw same (stored_fails c.args.source c.in_err-read_slot.field-0.0 _ _ (rw c.in_err-read_slot.was at c.read_slot.ensures))
