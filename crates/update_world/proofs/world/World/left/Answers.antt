use Rattle.std.proofs.Common.{rules, ◌≡◌, None, IfOk}
use Rattle.update_world.specs.Turns.{left, repeated}
use Rattle.update_world.proofs.Disks.{holds, left_exactly}
use Rattle.update_world.proofs.world.World.left.Goals as goal

pub returns-clause-crash : goal.returns-clause-crash
returns-clause-crash c =
    let different : repeated c.args.self.now.posts ≡ None = search (rules, c.self.invariant.different) in
    let is : IfOk c.readings_from.result (λ rs. rs ≡ left c.args.self.now.first c.args.self.now.posts c.args.self.now.turns) = search rules in
    left_exactly c.args.self.now.first c.args.self.now.posts different c.args.self.now.turns c.readings_from.result is

pub returns-clause-held : goal.returns-clause-held
returns-clause-held c =
    let different : repeated c.args.self.now.posts ≡ None = search (rules, c.self.invariant.different) in
    holds c.args.self.now.first c.args.self.now.posts different c.args.self.now.turns
