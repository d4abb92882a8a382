use Rattle.std.proofs.Common.{refl}
use Rattle.image_tree.proofs.Above.{path_of_found}
use Rattle.image_tree.specs.Runs.{joined}
use Rattle.image_tree.proofs.tree.Tree.node_or_kind.Goals as goal

pub returns-in-Ok-clause-at_paths : goal.returns-in-Ok-clause-at_paths
returns-in-Ok-clause-at_paths c = λ _. path_of_found (joined c.self.inside.runs.items) c.args.path.now _ c.self.invariant.0.tree.entries c.node.ensures refl
