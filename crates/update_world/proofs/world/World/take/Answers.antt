use Rattle.std.proofs.Common.{rules, ◌≡◌, ◌∷◌, ◌++◌, []}
use Rattle.update_world.proofs.Kept.{after_turns, turn_on}
use Rattle.update_world.specs.Kept.{after_turn}
use Rattle.update_world.proofs.world.World.take.Goals as goal

pub invariant_of-self-2 : goal.invariant_of-self-2
invariant_of-self-2 c =
    let taken : c.push.new.self.items ≡ c.self.inside.turns.items ++ c.args.turn ∷ [] = search rules in
    let is : c.take_turn.new.machine ≡ after_turn c.self.inside.posts c.args.turn c.self.inside.machine = search rules in
    turn_on c.self.inside.first c.self.inside.posts c.self.inside.turns.items c.self.inside.machine c.self.invariant c.args.turn c.push.new.self.items c.take_turn.new.machine taken is

pub returns-clause-after_turns : goal.returns-clause-after_turns
returns-clause-after_turns c =
    let taken : c.push.new.self.items ≡ c.self.inside.turns.items ++ c.args.turn ∷ [] = search rules in
    let is : c.take_turn.new.machine ≡ after_turn c.self.inside.posts c.args.turn c.self.inside.machine = search rules in
    after_turns c.self.inside.first c.self.inside.posts c.push.new.self.items c.take_turn.new.machine
    (turn_on c.self.inside.first c.self.inside.posts c.self.inside.turns.items c.self.inside.machine c.self.invariant c.args.turn c.push.new.self.items c.take_turn.new.machine taken is)
