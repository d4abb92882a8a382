use Rattle.std.proofs.Common.{[], sym, ap}
use Rattle.std.specs.Option.{is_some}
use Rattle.image_tree.proofs.Index.{found_node, absent_node, none_removed}
use Rattle.image_tree.proofs.tree.entries.remove.Goals as goal
use Rattle.image_tree.specs.declared.node.Node.TheVariants.{Dir}

pub returns-in-Ok-clause-found : goal.returns-in-Ok-clause-found
returns-in-Ok-clause-found c = sym (ap is_some (found_node _ _ _ c.requires.sorted c.in-Ok.ensures.found.index ([], Dir)))

pub returns-in-Err-clause-list : goal.returns-in-Err-clause-list
returns-in-Err-clause-list c = none_removed _ _ _ c.in-Err.ensures.absent.gap

pub returns-in-Err-clause-found : goal.returns-in-Err-clause-found
returns-in-Err-clause-found c = ap is_some (absent_node _ _ _ c.in-Err.ensures.absent.gap)
