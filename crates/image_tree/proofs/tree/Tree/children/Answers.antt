use Rattle.std.proofs.Common.{ap, map, List, ℕ, Option, ◌∙◌}
use Rattle.image_tree.proofs.Listed.{names_listed}
use Rattle.image_tree.specs.declared.node.Node.{Node}
use Rattle.image_tree.proofs.tree.Tree.children.Goals as goal

pub returns-clause-names : goal.returns-clause-names
returns-clause-names c = c.of.ensures ∙ ap (map (λ (x : List ℕ × Option Node). x.0)) c.listing.ensures.list ∙ names_listed c.args.self.now c.args.path.now
