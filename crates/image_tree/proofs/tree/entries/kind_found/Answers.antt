use Rattle.std.proofs.Common.{[], None, ap, sym, ◌∙◌}
use Rattle.image_tree.proofs.KindAt.{kind_found, kind_in_gap}
use Rattle.image_tree.specs.Runs.{joined, index_of, IsPlaceOf, IsGapAt}
use Rattle.image_tree.specs.Tree.{kind_of, kind_there}
use Rattle.image_tree.specs.declared.node.Node.TheVariants.{Dir}
use Rattle.image_tree.proofs.tree.entries.kind_found.Goals as goal

pub returns-in-Ok : goal.returns-in-Ok
returns-in-Ok c =
    let runs = c.args.runs.now.items in
    let found : IsPlaceOf runs c.args.path.now c.in-Ok.place = rw c.in-Ok.is at c.requires.found in
    c.kind_of.ensures ∙ ap kind_of (c.node_of.ensures ([], Dir))
    ∙ sym (kind_found (joined runs) c.args.path.now c.requires.path (index_of runs c.in-Ok.place) c.requires.runs.tree found.index ([], Dir))

pub returns-then-has_below : goal.returns-then-has_below
returns-then-has_below c =
    let runs = c.args.runs.now.items in
    let gap : IsGapAt runs c.args.path.now c.in-Err.place = rw c.in-Err.is at c.requires.found in
    ap (kind_there None) (sym c.if-has_below.true ∙ c.has_below.ensures)
    ∙ sym (kind_in_gap (joined runs) c.args.path.now c.requires.path (index_of runs c.in-Err.place) gap.gap)

pub returns-else-has_below : goal.returns-else-has_below
returns-else-has_below c =
    let runs = c.args.runs.now.items in
    let gap : IsGapAt runs c.args.path.now c.in-Err.place = rw c.in-Err.is at c.requires.found in
    ap (kind_there None) (sym c.if-has_below.false ∙ c.has_below.ensures)
    ∙ sym (kind_in_gap (joined runs) c.args.path.now c.requires.path (index_of runs c.in-Err.place) gap.gap)
