use Rattle.std.proofs.Common.{sym, ◌∙◌}
use Rattle.name_order.proofs.Contained.{so_here}
use Rattle.name_order.proofs.contains_so.Goals as goal

pub returns-then-has_so_at : goal.returns-then-has_so_at
returns-then-has_so_at c = so_here c.args.name.now c.loop-i.i c.loop-i-test.true c.loop-i.invariant.0 (sym c.has_so_at.ensures ∙ c.if-has_so_at.true)
