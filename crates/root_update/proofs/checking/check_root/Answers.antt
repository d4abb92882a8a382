use Rattle.std.proofs.Common.{rules, ◌≡◌, Err}
use Rattle.root_update.proofs.Checked.{finds, no_cache, unmade}
use Rattle.root_update.specs.declared.fault.RootFault.TheVariants as faults
use Rattle.root_update.proofs.checking.check_root.Goals as goal

pub returns-in_err-prepared : goal.returns-in_err-prepared
returns-in_err-prepared g c =
    let same : c.from_residual.result ≡ Err c.in_err-prepared.field-0.0 = search rules in
    rw same (unmade c.args.parts.now c.in_err-prepared.field-0.0 _ _ c.in_err-prepared.ensures.prepares)

pub returns-in_err-differs : goal.returns-in_err-differs
returns-in_err-differs g c =
    let same : c.from_residual-in_err-differs.result ≡ Err (faults.Slot c.in_err-differs.field-0.0) = search rules in
    rw same (no_cache c.args.parts.now c.in_ok-prepared.prepared _ _ _ _ _ c.in_ok-prepared.ensures.prepares c.as_slice.result.now c.in_err-differs.field-0.0 c.in_err-differs.ensures)

pub returns : goal.returns
returns g c =
    finds c.args.parts.now c.in_ok-prepared.prepared _ _ _ _ _ c.in_ok-prepared.ensures.prepares c.in_ok-differs.differs c.as_slice.result.now c.asked_links.result
    c.as_slice.ensures.value c.asked_links.ensures.links c.in_ok-differs.ensures
