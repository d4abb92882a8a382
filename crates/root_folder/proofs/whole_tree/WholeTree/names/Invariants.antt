use Rattle.std.proofs.Common.{◌≡◌, ◌++◌}
use Rattle.image_tree.specs.Tree.{children_of}
use Rattle.root_folder.proofs.whole_tree.WholeTree.names.Given as goal

abbrev pub invariant-loop-name : goal.invariant-loop-name
invariant-loop-name l = l.names ++ l.name-iterator ≡ children_of l.fn.self.tree l.fn.dir
