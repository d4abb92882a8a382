use Rattle.std.proofs.Common.{subst}
use Rattle.path_walk.proofs.KindsAt.{ends_after, last_ends}
use Rattle.path_walk.specs.Stops.{HaltsAt}
use Rattle.path_walk.proofs.walk.follow.Goals as goal

pub returns-in-Reached-clause-located : goal.returns-in-Reached-clause-located
returns-in-Reached-clause-located c =
    let t = c.args.tree.now in
    let here = c.loop-link.place.items in
    let end = c.walk_names.new.place.items in
    ends_after t c.args.place.now.items here end c.loop-link.invariant.1 c.in-Reached.end
    (subst (HaltsAt t here end) c.in-Reached.is c.in_ok-end.ensures.located)

pub returns-clause-located : goal.returns-clause-located
returns-clause-located c =
    last_ends c.args.tree.now c.args.place.now.items c.loop-link.place.items c.walk_names-2.new.place.items c.loop-link.invariant.1
    c.in_ok-walk_names.field-0 c.in_ok-walk_names.ensures.located c.last_end.result c.last_end.ensures
