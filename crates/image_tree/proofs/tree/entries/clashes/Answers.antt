use Rattle.std.proofs.Common.{ap, not, sym, ◌&&◌, ◌∙◌}
use Rattle.image_tree.proofs.Above.{clash_above, clash_below}
use Rattle.image_tree.specs.Runs.{joined}
use Rattle.image_tree.specs.Tree.{has_below}
use Rattle.image_tree.proofs.tree.entries.clashes.Goals as goal

pub returns-then-has_file_above : goal.returns-then-has_file_above
returns-then-has_file_above c =
    c.if-has_file_above.true ∙ sym (clash_above (joined c.args.runs.now.items) c.args.path.now c.args.node.now (sym c.has_file_above.ensures ∙ c.if-has_file_above.true))

pub returns-then-not-is_dir : goal.returns-then-not-is_dir
returns-then-not-is_dir c =
    c.has_below.ensures ∙ ap (λ b. b && has_below (joined c.args.runs.now.items) c.args.path.now) c.requires.path
    ∙ sym (clash_below (joined c.args.runs.now.items) c.args.path.now c.args.node.now (sym c.has_file_above.ensures ∙ c.if-has_file_above.false) (ap not (sym c.is_dir.ensures ∙ c.if-not-is_dir.true)))
