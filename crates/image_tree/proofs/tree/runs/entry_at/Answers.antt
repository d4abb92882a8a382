use Rattle.std.proofs.Common.{ap, get_or, ◌∙◌}
use Rattle.image_tree.proofs.Runs.{entry_there}
use Rattle.image_tree.proofs.tree.runs.entry_at.Goals as goal

pub returns : goal.returns
returns c = entry_there c.args.runs.now.items c.args.place c.requires _ (λ d. c.entry_of.ensures d ∙ ap (λ r. get_or r c.args.place.at d) c.run_of.ensures)
