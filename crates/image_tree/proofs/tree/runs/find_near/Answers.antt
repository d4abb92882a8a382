use Rattle.std.proofs.Common.{◌<◌, length, subst, arith}
use Rattle.image_tree.proofs.Runs.{place_found}
use Rattle.image_tree.specs.Index.{IsIndexOf}
use Rattle.image_tree.proofs.tree.runs.find_near.Goals as goal

pub returns : goal.returns
returns c =
    let h : c.args.near.run < length c.args.runs.now.items = omega (arith, c.if-near-len.false, c.len.ensures) in
    place_found c.args.runs.now.items _ c.args.path.now h (subst (λ r. IsIndexOf r c.args.path.now c.in_ok-at.at) c.run_of.ensures c.in_ok-at.ensures)
