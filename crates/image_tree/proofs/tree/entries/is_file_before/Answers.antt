use Rattle.std.proofs.Common.{ℕ, [], List, sym, ap, subst, ◌∙◌}
use Rattle.image_tree.proofs.Above.{none_above_first, above_by_before}
use Rattle.image_tree.specs.Index.{IsGapFor, is_file_above}
use Rattle.image_tree.specs.Runs.{joined, index_of}
use Rattle.image_tree.specs.declared.node.Node.{Node}
use Rattle.image_tree.specs.declared.node.Node.TheVariants.{Dir}
use Rattle.image_tree.proofs.tree.entries.is_file_before.Goals as goal

pub returns-in-Some : goal.returns-in-Some
returns-in-Some c =
    let t = joined c.args.runs.now.items in
    let b = c.in-Some.ensures in
    let d : List ℕ × Node = ([], Dir) in
    c.is_file_above.ensures ∙ ap (is_file_above c.args.path.now) (sym (b.entry.same d))
    ∙ above_by_before t c.requires.runs.tree c.args.path.now (index_of c.args.runs.now.items c.args.place) b.i d b.next c.requires.gap.gap

pub returns-in-None : goal.returns-in-None
returns-in-None c =
    let t = joined c.args.runs.now.items in
    let path = c.args.path.now in
    sym (none_above_first t c.requires.runs.tree path (subst (λ (n : ℕ). IsGapFor t path n) c.in-None.ensures c.requires.gap.gap))
