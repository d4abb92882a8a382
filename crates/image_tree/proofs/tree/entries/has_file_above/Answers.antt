use Rattle.std.proofs.Common.{[], sym}
use Rattle.image_tree.proofs.Above.{none_above_found}
use Rattle.image_tree.specs.Runs.{index_of, IsPlaceOf}
use Rattle.image_tree.specs.declared.node.Node.TheVariants.{Dir}
use Rattle.image_tree.proofs.tree.entries.has_file_above.Goals as goal

pub returns-in-Ok : goal.returns-in-Ok
returns-in-Ok c =
    let found : IsPlaceOf c.args.runs.now.items c.args.path.now c.in-Ok.field-0 = rw c.in-Ok.is at c.requires.found in
    sym (none_above_found _ c.requires.runs.tree c.args.path.now (index_of c.args.runs.now.items c.in-Ok.field-0) ([], Dir) found.index)
