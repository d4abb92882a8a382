use Rattle.std.proofs.Common.{◌≡◌, drop}
use Rattle.tree_face.specs.Past.{changes_of, first_holding, holding_of}
use Rattle.tree_face.proofs.Past.{holding_at_end}
use Rattle.tree_face.proofs.memory.past.Past.held.Given as goal

abbrev pub invariant-loop-change : goal.invariant-loop-change
invariant-loop-change l =
    holding_at_end l.slot (holding_of l.held) (drop l.change-index (changes_of l.fn.self)) ≡ holding_at_end l.slot (first_holding l.fn.self l.slot) (changes_of l.fn.self)
