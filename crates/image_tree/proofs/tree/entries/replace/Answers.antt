use Rattle.std.proofs.Common.{ℕ, List, length, ap, ◌∙◌}
use Rattle.std.proofs.lemmas.List.{length-set}
use Rattle.image_tree.proofs.Index.{replaced}
use Rattle.image_tree.specs.declared.node.Node.{Node}
use Rattle.image_tree.proofs.tree.entries.replace.Goals as goal

pub returns-clause-list : goal.returns-clause-list
returns-clause-list c = let d : List ℕ × Node = (c.args.path.now, c.args.node) in c.set_node.ensures.joined d ∙ replaced _ _ _ c.args.node d c.requires.sorted c.requires.place.index

pub returns-clause-count : goal.returns-clause-count
returns-clause-count c = let d : List ℕ × Node = (c.args.path.now, c.args.node) in ap length (c.set_node.ensures.joined d) ∙ length-set _ _ _
