use Rattle.std.proofs.Common.{rules, ◌≡◌, []}
use Rattle.update_world.proofs.Kept.{begun, after_turns}
use Rattle.update_world.specs.Kept.{new_machine}
use Rattle.update_world.proofs.world.begin.Goals as goal

pub invariant_of-result : goal.invariant_of-result
invariant_of-result c =
    let is : c.in_ok-machine.machine ≡ new_machine c.args.first c.args.posts = search rules in
    let none : c.new-2.result.items ≡ [] = search rules in
    begun c.args.first c.args.posts c.new-2.result.items c.in_ok-machine.machine c.requires.few c.requires.different none is

pub returns-clause-after_turns : goal.returns-clause-after_turns
returns-clause-after_turns c =
    let is : c.in_ok-machine.machine ≡ new_machine c.args.first c.args.posts = search rules in
    let none : c.new-2.result.items ≡ [] = search rules in
    after_turns c.args.first c.args.posts c.new-2.result.items c.in_ok-machine.machine
    (begun c.args.first c.args.posts c.new-2.result.items c.in_ok-machine.machine c.requires.few c.requires.different none is)
