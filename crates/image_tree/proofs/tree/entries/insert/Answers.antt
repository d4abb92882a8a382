use Rattle.std.proofs.Common.{length, ap, ◌∙◌}
use Rattle.std.proofs.lemmas.List.Edits.{length-insert}
use Rattle.image_tree.proofs.Index.{inserted}
use Rattle.image_tree.proofs.tree.entries.insert.Goals as goal

pub returns-clause-done : goal.returns-clause-done
returns-clause-done c =
    c.in_ok-insert.ensures.done
    ∙ inserted _ _ _ c.args.node c.requires.gap.gap

pub returns-clause-count : goal.returns-clause-count
returns-clause-count c = ap length c.in_ok-insert.ensures.done ∙ length-insert _ _ _ c.requires.gap.gap.within
