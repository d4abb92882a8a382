use Rattle.std.proofs.Common.{length, take, drop, ap, ◌∙◌}
use Rattle.image_tree.proofs.Names.{folder_taken}
use Rattle.image_tree.proofs.Rising.{below_rest}
use Rattle.image_tree.specs.Paths.{folder}
use Rattle.image_tree.proofs.path.folder_in.Goals as goal

pub returns : goal.returns
returns c =
    let f = folder c.args.path.now in
    let q = c.args.other.now in
    ap (λ n. take n q) c.folder_len.ensures ∙ folder_taken f q (drop (length f) q) (below_rest c.args.path.now q c.requires.below)
