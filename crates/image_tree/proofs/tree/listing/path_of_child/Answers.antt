use Rattle.image_tree.proofs.Names.{child_path}
use Rattle.image_tree.proofs.tree.listing.path_of_child.Goals as goal

pub returns : goal.returns
returns c = child_path c.args.folder.now c.args.name.now c.args.path.now c.requires.folder c.requires.name
