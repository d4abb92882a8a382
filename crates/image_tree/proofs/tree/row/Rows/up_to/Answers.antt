use Rattle.std.proofs.Common.{length}
use Rattle.image_tree.proofs.OneText.{within_taken}
use Rattle.image_tree.proofs.tree.row.Rows.up_to.Goals as goal

pub invariant_of-result : goal.invariant_of-result
invariant_of-result c = within_taken (length c.self.inside.text.now) c.self.inside.rows.now c.args.index c.self.invariant
