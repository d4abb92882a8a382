use Rattle.std.proofs.Common.{rules, ◌≡◌, ◌++◌, Ok, Err}
use Rattle.command_status.proofs.Saying.{takes_on, takes_part}
use Rattle.lib_types.specs.Defects.{number_text}
use Rattle.command_status.specs.FaultLine.{front_bytes}
use Rattle.command_status.proofs.fault_line.put_line.Goals as goal

pub returns-in_err-put_front : goal.returns-in_err-put_front
returns-in_err-put_front g c =
    let front = front_bytes c.args.line.now in
    let digits = number_text c.args.line.now.number in
    let same : c.from_residual.result ≡ Err c.in_err-put_front.field-0.0 = search rules in
    rw same (takes_part (front ++ digits) c.args.line.now.back.now _ _ c.in_err-put_front.field-0.0
    (takes_part front digits _ _ c.in_err-put_front.field-0.0 (rw c.in_err-put_front.was at c.put_front.ensures)))

pub returns-in_err-put_number : goal.returns-in_err-put_number
returns-in_err-put_number g c =
    let front = front_bytes c.args.line.now in
    let digits = number_text c.args.line.now.number in
    let same : c.from_residual-in_err-put_number.result ≡ Err c.in_err-put_number.field-0.0 = search rules in
    rw same (takes_part (front ++ digits) c.args.line.now.back.now _ _ c.in_err-put_number.field-0.0
    (takes_on front digits _ _ _ (Err c.in_err-put_number.field-0.0) (rw c.in_ok-put_front.was at c.put_front.ensures) (rw c.in_err-put_number.was at c.put_number.ensures)))

pub returns : goal.returns
returns g c =
    let front = front_bytes c.args.line.now in
    let digits = number_text c.args.line.now.number in
    takes_on (front ++ digits) c.args.line.now.back.now _ _ _ c.put_all.result
    (takes_on front digits _ _ _ (Ok tt) (rw c.in_ok-put_front.was at c.put_front.ensures) (rw c.in_ok-put_number.was at c.put_number.ensures)) c.put_all.ensures
