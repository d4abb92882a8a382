use Rattle.std.proofs.Common.{refl}
use Rattle.image_tree.proofs.Above.{path_of_found}
use Rattle.image_tree.specs.Runs.{joined}
use Rattle.image_tree.proofs.tree.Tree.node.Goals as goal

pub returns-clause-at_paths : goal.returns-clause-at_paths
returns-clause-at_paths c = rw (← c.self.view_is) (path_of_found (joined c.self.inside.runs.items) c.args.path.now _ c.self.invariant.0.tree.entries refl)
