use Rattle.std.proofs.Common.{Ok, Err, refl}
use Rattle.sample_runs.proofs.Ended.{part, whole}
use Rattle.sample_runs.proofs.sample.sample_on.Goals as goal

pub returns-in-Err : goal.returns-in-Err
returns-in-Err g c = (Err c.in-Err.fault, ((c.in-Err.ensures.failed, c.in-Err.ensures.part), (c.from.ensures, refl)))

pub returns-then-is_err : goal.returns-then-is_err
returns-then-is_err g c =
    (Ok c.in-Ok.text.items, (c.in-Ok.ensures.text, part c.in-Ok.text.items _ _ c.put_all.result c.if-is_err.ensures.value (rw c.deref.ensures.value at c.put_all.ensures)))

pub returns : goal.returns
returns g c =
    (Ok c.in-Ok.text.items, (c.in-Ok.ensures.text, whole c.in-Ok.text.items _ _ c.put_all.result c.if-is_err.ensures.value (rw c.deref.ensures.value at c.put_all.ensures)))
