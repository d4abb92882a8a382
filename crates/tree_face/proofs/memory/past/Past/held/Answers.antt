use Rattle.std.proofs.Common.{arith, ◌≡◌, [], List, drop, sym, subst, ◌∙◌}
use Rattle.std.proofs.lemmas.Grind.{common_steps}
use Rattle.tree_face.specs.declared.memory.past.Change.{Change}
use Rattle.tree_face.specs.Past.{changes_of, first_holding, first_moment, holding_of}
use Rattle.tree_face.proofs.Past.{holding_at_end, holds_at_end}
use Rattle.tree_face.proofs.memory.past.Past.held.Goals as goal

pub returns : goal.returns
returns c =
    let none : drop c.loop-change.change-index (changes_of c.args.self.now) ≡ [] = grind (arith, common_steps) in
    subst (λ (l : List Change). holding_at_end c.args.slot (holding_of c.loop-change.held) l ≡ holding_at_end c.args.slot (first_holding c.args.self.now c.args.slot) (changes_of c.args.self.now))
    none c.loop-change.invariant ∙ sym (holds_at_end c.args.slot (first_moment c.args.self.now c.args.slot) (changes_of c.args.self.now))
