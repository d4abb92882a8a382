use Rattle.std.proofs.Common.{ap, set, get_or, ◌∙◌, arith}
use Rattle.image_tree.proofs.OneText.{entries_with_node, rows_count}
use Rattle.image_tree.proofs.tree.run.Run.set_node.Goals as goal

pub returns : goal.returns
returns c = λ d.
    let text = c.self.inside.text.items in
    let rows = c.self.inside.rows.items in
    let i = c.args.index in
    let within = c.requires in
    let count = rows_count text rows c.args.self.now c.self.view_is in
    entries_with_node text rows c.set_node.new.rows.items i c.args.node d (omega arith) c.set_node.ensures.parts c.set_node.ensures.nodes
    ∙ ap (λ t. set t i ((get_or t i d).0, c.args.node)) c.self.view_is
