use Rattle.std.proofs.Common.{subst, sym}
use Rattle.image_tree.specs.Tree.{Nodes}
use Rattle.layer_union.proofs.Layering.{is_free}
use Rattle.layer_union.proofs.layers.merge.Goals as goal
use Rattle.layer_union.specs.Steps.{IsFree}

pub put_all-requires : goal.put_all-requires
put_all-requires c = subst (λ (z : Nodes). IsFree z c.args.layer.now) (sym c.in_ok-clear_all.ensures) (is_free c.args.tree.now c.args.layer.now)
