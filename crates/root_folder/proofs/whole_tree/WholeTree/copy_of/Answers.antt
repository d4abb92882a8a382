use Rattle.std.specs.Option.{option_copied}
use Rattle.root_folder.proofs.Whole.{valid_copy}
use Rattle.root_folder.proofs.whole_tree.WholeTree.copy_of.Goals as goal

pub returns-clause-valid : goal.returns-clause-valid
returns-clause-valid c = valid_copy c.args.self.now.tree c.args.path.now (option_copied c.node.result) c.copy_found.result c.args.self.now.whole c.node.ensures.node c.copy_found.ensures
