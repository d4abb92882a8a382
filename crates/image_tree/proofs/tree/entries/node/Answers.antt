use Rattle.std.proofs.Common.{[], Some, ap, sym, ◌∙◌}
use Rattle.image_tree.proofs.Index.{found_node}
use Rattle.image_tree.proofs.tree.entries.node.Goals as goal
use Rattle.image_tree.specs.declared.node.Node.TheVariants.{Dir}

pub returns : goal.returns
returns c = found_node _ _ _ c.requires.sorted c.requires.place.index ([], Dir) ∙ ap Some (sym (c.node_of.ensures ([], Dir)))
