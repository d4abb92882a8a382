use Rattle.std.proofs.Common.{length, arith}
use Rattle.image_tree.proofs.OneText.{row_within, rows_count}
use Rattle.image_tree.proofs.tree.row.Rows.get.Goals as goal

pub entry_in-requires : goal.entry_in-requires
entry_in-requires c =
    let within = c.requires in
    let count = rows_count c.self.inside.text.now c.self.inside.rows.now c.args.self.now c.self.view_is in
    row_within (length c.self.inside.text.now) c.self.inside.rows.now c.args.index c.index-self-index.result c.self.invariant (omega arith)
