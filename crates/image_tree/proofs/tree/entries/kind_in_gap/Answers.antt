use Rattle.std.proofs.Common.{sym}
use Rattle.image_tree.proofs.Index.{absent_node}
use Rattle.image_tree.proofs.tree.entries.kind_in_gap.Goals as goal

pub returns-then-eq-clause-none : goal.returns-then-eq-clause-none
returns-then-eq-clause-none c = sym (absent_node _ _ _ c.requires.gap.gap)

pub returns-clause-none : goal.returns-clause-none
returns-clause-none c = sym (absent_node _ _ _ c.requires.gap.gap)
