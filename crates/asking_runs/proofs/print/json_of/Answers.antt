use Rattle.std.proofs.Common.{rules, ◌≡◌, Ok, Err, ap, inl, inr, refl}
use Rattle.asking_runs.specs.declared.fault.CacheFault.TheVariants as faults
use Rattle.asking_runs.proofs.print.json_of.Goals as goal

pub returns-in_err-listed : goal.returns-in_err-listed
returns-in_err-listed c =
    let same : c.from_residual.result ≡ Err faults.NoMemory = search rules in
    rw same (inr refl)

pub returns : goal.returns
returns c = inl (ap Ok c.in_ok-listed.ensures)
