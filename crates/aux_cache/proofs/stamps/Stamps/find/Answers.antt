use Rattle.std.proofs.Common.{◌∙◌}
use Rattle.aux_cache.proofs.Sorted.{found_stamp, absent_stamp}
use Rattle.aux_cache.proofs.stamps.Stamps.find.Goals as goal

pub returns-in-Ok : goal.returns-in-Ok
returns-in-Ok c =
    c.get.ensures ∙ rw (← c.self.view_is) (found_stamp c.self.inside.stamps.items c.args.id.now c.in-Ok.index c.self.invariant c.in-Ok.ensures.found)

pub returns-in-Err : goal.returns-in-Err
returns-in-Err c = rw (← c.self.view_is) (absent_stamp c.self.inside.stamps.items c.args.id.now c.in-Err.field-0 c.in-Err.ensures.absent)
