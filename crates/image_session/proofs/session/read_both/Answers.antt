use Rattle.std.proofs.Common.{rules, ◌≡◌, Err}
use Rattle.image_session.proofs.Readings.{both_first, both_second}
use Rattle.image_session.proofs.session.read_both.Goals as goal

pub returns-in_err-stored : goal.returns-in_err-stored
returns-in_err-stored g c =
    let same : c.from_residual.result ≡ Err c.in_err-stored.field-0.0 = search rules in
    rw same (both_first c.args.source c.in_err-stored.field-0.0 _ _ (rw c.in_err-stored.was at c.read_stored.ensures))

pub returns-in_err-aux : goal.returns-in_err-aux
returns-in_err-aux g c =
    let same : c.from_residual-in_err-aux.result ≡ Err c.in_err-aux.field-0.0 = search rules in
    rw same (both_second c.args.source c.in_ok-stored.stored c.in_err-aux.field-0.0 _ _ _
    (rw c.in_ok-stored.was at c.read_stored.ensures) (rw c.in_err-aux.was at c.read_slot.ensures))
