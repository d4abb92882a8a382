use Rattle.std.proofs.Common.{◌≡◌, ◌∙◌, OnOk, ap, filter, not, subst}
use Rattle.image_tree.specs.Paths.{is_below}
use Rattle.image_tree.specs.Tree.{Nodes}
use Rattle.layer_union.proofs.Children.{from_filter}
use Rattle.layer_union.proofs.clear.clear_from.Goals as goal

pub returns : goal.returns
returns c =
    let t = c.args.tree.now in
    let q = c.args.path.now in
    subst (λ (z : Nodes). OnOk c.clear_below.result (c.clear_below.new.tree ≡ z))
    (ap (λ (z : Nodes). filter (λ e. not (is_below q e.0)) z) c.remove.ensures.list ∙ from_filter t q c.know.ensures)
    c.clear_below.ensures
