use Rattle.std.proofs.Common.{[], not, ◌&&◌, ◌==◌, length, ap, sym, ◌∙◌}
use Rattle.std.specs.Option.{is_some}
use Rattle.image_tree.proofs.Index.{found_node, absent_node}
use Rattle.image_tree.specs.Runs.{joined, index_of, IsPlaceOf, IsGapAt}
use Rattle.image_tree.specs.declared.node.Node.TheVariants.{Dir}
use Rattle.image_tree.proofs.tree.entries.has_no_room.Goals as goal
use Rattle.image_tree.specs.declared.tree.TheConstants.{NODES_MAX}

pub returns-in-Ok-clause-value : goal.returns-in-Ok-clause-value
returns-in-Ok-clause-value c =
    let runs = c.args.runs.now.items in
    let t = joined runs in
    let found : IsPlaceOf runs c.args.path.now c.in-Ok.field-0 = rw c.in-Ok.is at c.requires.found in
    sym (ap (λ o. not (is_some o) && (length t == NODES_MAX)) (found_node t c.args.path.now (index_of runs c.in-Ok.field-0) c.requires.runs.tree.sorted found.index ([], Dir)))

pub returns-in-Err-clause-value : goal.returns-in-Err-clause-value
returns-in-Err-clause-value c =
    let runs = c.args.runs.now.items in
    let t = joined runs in
    let gap : IsGapAt runs c.args.path.now c.in-Err.field-0 = rw c.in-Err.is at c.requires.found in
    ap (λ n. n == NODES_MAX) c.requires.count ∙ ap (λ o. not (is_some o) && (length t == NODES_MAX)) (absent_node t c.args.path.now (index_of runs c.in-Err.field-0) gap.gap)
