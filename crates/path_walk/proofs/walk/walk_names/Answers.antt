use Rattle.std.proofs.Common.{subst}
use Rattle.std.specs.Option.{MatchOption}
use Rattle.path_walk.proofs.KindsAt.{halts_after}
use Rattle.path_walk.specs.Stops.{HaltsAt, KeepsDir}
use Rattle.path_walk.proofs.walk.walk_names.Goals as goal

pub returns-in-Some-2-clause-located : goal.returns-in-Some-2-clause-located
returns-in-Some-2-clause-located c =
    let t = c.args.tree.now in
    let here = c.loop-name.place.items in
    let end = c.go.new.place.items in
    halts_after t c.args.place.now.items here end c.loop-name.invariant.1 c.in-Some-2.halt
    (subst (λ stop. MatchOption stop (KeepsDir t here end) (HaltsAt t here end)) c.in-Some-2.is c.in_ok-halt.ensures.located)
