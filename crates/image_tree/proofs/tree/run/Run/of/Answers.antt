use Rattle.image_tree.proofs.OneText.{settled}
use Rattle.image_tree.proofs.tree.run.Run.of.Goals as goal

pub returns : goal.returns
returns c =
    settled c.paths.inside.text.items c.set_parts.new.rows.items c.args.rows.items c.paths.inside.parts.items c.args.paths c.paths.view_is c.set_parts.ensures.parts c.set_parts.ensures.nodes
