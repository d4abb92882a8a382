use Rattle.std.proofs.Common.{sym}
use Rattle.image_tree.proofs.Index.{absent_node}
use Rattle.image_tree.proofs.tree.entries.place_of.Goals as goal

pub returns-in-Err : goal.returns-in-Err
returns-in-Err c = sym (absent_node _ _ _ c.in-Err.ensures.gap)
