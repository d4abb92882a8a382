use Rattle.std.proofs.Common.{◌≡◌, ◌∙◌, ℕ, List, OnOk, ap, filter, not, subst}
use Rattle.image_tree.specs.Node.{is_dir}
use Rattle.image_tree.specs.Paths.{is_below}
use Rattle.image_tree.specs.Tree.{Nodes}
use Rattle.layer_union.proofs.Upward.{clash_of_dir, clash_of_file, file_from, without_file}
use Rattle.layer_union.proofs.clear.clear_clashes.Goals as goal

pub returns-in-Dir : goal.returns-in-Dir
returns-in-Dir c =
    let t = c.args.tree.now in
    c.remove_file_from.ensures ∙ ap (λ (z : List ℕ). without_file z t) c.parted.ensures.folder
    ∙ clash_of_dir t c.know.ensures c.args.path.now c.args.node.now (ap is_dir c.in-Dir.is)

pub returns-in_default : goal.returns-in_default
returns-in_default c =
    let t = c.args.tree.now in
    let q = c.args.path.now in
    subst (λ (z : Nodes). OnOk c.clear_below.result (c.clear_below.new.tree ≡ z))
    (ap (λ (z : Nodes). filter (λ e. not (is_below q e.0)) z) (c.remove_file_from.ensures ∙ ap (λ (z : List ℕ). without_file z t) c.parted.ensures.folder)
    ∙ clash_of_file t c.know.ensures q c.args.node.now (file_from c.args.node.now c.in_default.not-Dir))
    c.clear_below.ensures
