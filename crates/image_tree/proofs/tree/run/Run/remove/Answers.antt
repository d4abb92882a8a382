use Rattle.std.proofs.Common.{length, sym, subst}
use Rattle.image_tree.proofs.OneText.{within_removed}
use Rattle.image_tree.specs.OneText.{parts_in_rows, AreWithin}
use Rattle.image_tree.proofs.tree.run.Run.remove.Goals as goal

pub invariant_of-self : goal.invariant_of-self
invariant_of-self c =
    let count = length c.self.inside.text.items in
    subst (λ rows. AreWithin count (parts_in_rows rows)) (sym c.remove.ensures.items) (within_removed count c.self.inside.rows.items c.args.index c.self.invariant)
