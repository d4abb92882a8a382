use Rattle.std.proofs.Common.{length, ap, sym, subst, ◌∙◌, drop}
use Rattle.image_tree.proofs.OneText.{within_dropped, entries_dropped}
use Rattle.image_tree.specs.OneText.{parts_in_rows, entries_in, AreWithin}
use Rattle.image_tree.proofs.tree.row.Rows.from.Goals as goal

pub invariant_of-result : goal.invariant_of-result
invariant_of-result c =
    let count = length c.self.inside.text.now in
    subst (λ rows. AreWithin count (parts_in_rows rows)) (sym c.rows_from.ensures) (within_dropped count c.self.inside.rows.now c.args.index c.self.invariant)

pub returns : goal.returns
returns c =
    let text = c.self.inside.text.now in
    ap (entries_in text) c.rows_from.ensures ∙ entries_dropped text c.self.inside.rows.now c.args.index ∙ ap (drop c.args.index) c.self.view_is
