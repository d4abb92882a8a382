use Rattle.std.proofs.Common.{ap}
use Rattle.std.specs.List.{dedup}
use Rattle.image_tree.specs.Runs.{children_after, is_same_child}
use Rattle.image_tree.proofs.tree.listing.Listing.of.Goals as goal

pub returns-in-Some : goal.returns-in-Some
returns-in-Some c = ap (λ f. dedup is_same_child (children_after f c.args.rest)) c.folder_in-folder.ensures
