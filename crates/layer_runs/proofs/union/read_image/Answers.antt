use Rattle.std.proofs.Common.{rules, ◌≡◌, Result, Err, subst, sym}
use Rattle.image_tree.specs.Tree.{Nodes}
use Rattle.layer_runs.proofs.Images.{not_joined}
use Rattle.layer_runs.proofs.union.read_image.Goals as goal
use Rattle.layer_runs.specs.Faults.{of_union}
use Rattle.layer_runs.specs.Image.{ReadsImage}
use Rattle.layer_runs.specs.declared.fault.ImageFault.{ImageFault}

-- src/union.rt:21:8
pub returns-in_err-union : goal.returns-in_err-union
returns-in_err-union g c =
    let same : c.from_residual-in_err-union.result ≡ Err (of_union c.in_err-union.field-0.0) = search rules in
    subst (λ (result : Result Nodes ImageFault). ReadsImage c.args.keys.now result (g.S.Store.state c.args.store.now) (g.S.Store.state c.read_trees.new.store)) (sym same)
    (not_joined c.args.keys.now (g.S.Store.state c.args.store.now) (g.S.Store.state c.read_trees.new.store) c.in_ok-trees.trees c.in_ok-trees.ensures
    c.in_err-union.field-0.0 c.in_err-union.ensures.bad c.in_err-union.ensures.full)
