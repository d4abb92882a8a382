use Rattle.std.proofs.Common.{sym, ap, List, ℕ}
use Rattle.image_tree.specs.declared.node.Node.{Node}
use Rattle.image_tree.proofs.tree.entries.node_of.Goals as goal

pub returns : goal.returns
returns c = λ d. ap (λ (e : List ℕ × Node). e.1) (sym (c.entry_at.ensures.same d))
