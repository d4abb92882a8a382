use Rattle.std.proofs.Common.{rules, ◌≡◌, Err}
use Rattle.image_session.proofs.Readings.{image_first, image_second}
use Rattle.image_session.specs.Faults.{of_slot}
use Rattle.image_session.proofs.reading.read_image.Goals as goal

pub returns-in_err-tree : goal.returns-in_err-tree
returns-in_err-tree g c =
    let same : c.from_residual.result ≡ Err c.in_err-tree.field-0.0 = search rules in
    rw same (image_first c.args.source c.in_err-tree.field-0.0 _ _ (rw c.in_err-tree.was at c.read_tree.ensures))

pub returns-in_err-cache : goal.returns-in_err-cache
returns-in_err-cache g c =
    let same : c.from_residual-in_err-cache.result ≡ Err (of_slot c.in_err-cache.field-0.0) = search rules in
    rw same (image_second c.args.source c.in_ok-tree.tree c.in_err-cache.field-0.0 _ _ _
    (rw c.in_ok-tree.was at c.read_tree.ensures) (rw c.in_err-cache.was at c.read_slot.ensures))
