use Rattle.std.proofs.Common.{◌+◌, length, ap, ◌∙◌}
use Rattle.std.proofs.lemmas.List.Edits.{length-remove}
use Rattle.image_tree.proofs.Index.{removed}
use Rattle.image_tree.proofs.tree.entries.take_out.Goals as goal

pub returns-clause-list : goal.returns-clause-list
returns-clause-list c = c.remove.ensures.joined ∙ removed _ _ _ c.requires.sorted c.requires.place.index

pub returns-clause-one : goal.returns-clause-one
returns-clause-one c =
    let e = ap length c.remove.ensures.joined in
    let l = length-remove _ _ c.requires.place.index.within in
    ap (λ n. n + 1) e ∙ l
