use Rattle.std.proofs.Common.{rules, ◌≤◌, All, length, subst, sym}
use Rattle.update_world.specs.Worlds.{IsWhole, NeverFalls}
use Rattle.update_world.specs.Disks.{AreOnDisks}
use Rattle.update_world.proofs.Disks.{on_disks}
use Rattle.update_world.proofs.Runs.{all_whole, never_falls, read_all}
use Rattle.update_world.proofs.run.world_run.Goals as goal

pub returns-clause-whole : goal.returns-clause-whole
returns-clause-whole c =
    let past : length c.args.schedule.now ≤ c.loop-turn.turn-index = search rules in
    subst (All (IsWhole c.args.world.now.first c.args.world.now.posts)) (sym (read_all c.loop-turn.world c.loop-turn.turn-index c.args.schedule.now c.loop-turn.readings _ past c.loop-turn.invariant.rest))
    (all_whole c.args.world.now.first c.args.world.now.posts c.args.world.now.turns c.args.schedule.now)

pub returns-clause-order : goal.returns-clause-order
returns-clause-order c =
    let past : length c.args.schedule.now ≤ c.loop-turn.turn-index = search rules in
    subst NeverFalls (sym (read_all c.loop-turn.world c.loop-turn.turn-index c.args.schedule.now c.loop-turn.readings _ past c.loop-turn.invariant.rest))
    (never_falls c.args.world.now.first c.args.world.now.posts c.args.world.now.turns c.args.schedule.now)

pub returns-clause-disk : goal.returns-clause-disk
returns-clause-disk c =
    let past : length c.args.schedule.now ≤ c.loop-turn.turn-index = search rules in
    subst (AreOnDisks c.args.world.now.first c.args.world.now.posts c.args.world.now.turns c.args.schedule.now) (sym (read_all c.loop-turn.world c.loop-turn.turn-index c.args.schedule.now c.loop-turn.readings _ past c.loop-turn.invariant.rest))
    (on_disks c.args.world.now.first c.args.world.now.posts c.turns-taken.ensures.different c.args.world.now.turns c.args.schedule.now)
