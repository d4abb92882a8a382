use Rattle.std.proofs.Common.{rules, ◌≡◌, Err}
use Rattle.image_session.proofs.Loading.{loads_from, unloaded}
use Rattle.image_session.specs.Faults.{of_slot}
use Rattle.image_session.proofs.session.Session.load_from.Goals as goal

pub returns-in_err-readings : goal.returns-in_err-readings
returns-in_err-readings g c =
    let same : c.from_residual.result ≡ Err (of_slot c.in_err-readings.field-0.0) = search rules in
    rw same (record { loads = unloaded c.args.source c.in_err-readings.field-0.0 _ _ (rw c.in_err-readings.was at c.read_both.ensures) })

pub returns : goal.returns
returns g c = record {
  loads = loads_from _ _ c.in_ok-readings.readings.aux c.args.source c.in_ok-readings.readings.stored c.image_of.result
      (rw c.in_ok-readings.was at c.read_both.ensures) c.image_of.ensures;
}
