use Rattle.std.proofs.Common.{ap, sym, ◌∙◌}
use Rattle.std.specs.List.{zip}
use Rattle.std.specs.Map.{keys_of}
use Rattle.image_tree.proofs.OneText.{settled, zipped}
use Rattle.image_tree.specs.OneText.{nodes_of}
use Rattle.image_tree.proofs.tree.run.Run.settle.Goals as goal

pub returns : goal.returns
returns c =
    let rows = c.self.inside.rows.items in
    settled c.paths.inside.text.items c.set_parts.new.rows.items rows c.paths.inside.parts.items c.args.paths c.paths.view_is c.set_parts.ensures.parts c.set_parts.ensures.nodes
    ∙ ap (λ ps. zip ps (nodes_of rows)) (c.requires ∙ ap keys_of (sym c.self.view_is)) ∙ zipped c.self.inside.text.items rows ∙ c.self.view_is
