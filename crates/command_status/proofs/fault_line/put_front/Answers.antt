use Rattle.std.proofs.Common.{rules, ◌≡◌, Err}
use Rattle.command_status.proofs.Saying.{takes_on, takes_part}
use Rattle.command_status.proofs.fault_line.put_front.Goals as goal

pub returns-in_err-put_all : goal.returns-in_err-put_all
returns-in_err-put_all g c =
    let same : c.from_residual.result ≡ Err c.in_err-put_all.field-0.0 = search rules in
    rw same (takes_part c.args.line.now.lead.now c.args.line.now.front.now _ _ c.in_err-put_all.field-0.0 (rw c.in_err-put_all.was at c.put_all.ensures))

pub returns : goal.returns
returns g c = takes_on c.args.line.now.lead.now c.args.line.now.front.now _ _ _ c.put_all-2.result (rw c.in_ok-put_all.was at c.put_all.ensures) c.put_all-2.ensures
