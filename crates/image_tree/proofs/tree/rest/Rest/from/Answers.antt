use Rattle.std.proofs.Common.{◌+◌, ◌<◌, ◌++◌, [], get_or, length, drop, refl, ap, ◌∙◌, arith}
use Rattle.image_tree.proofs.Runs.{joined_from, all_dropped}
use Rattle.image_tree.specs.Runs.{joined, are_runs, is_run}
use Rattle.image_tree.proofs.tree.rest.Rest.from.Goals as goal

pub invariant_of-result : goal.invariant_of-result
invariant_of-result c = ap are_runs c.runs_after.ensures ∙ all_dropped is_run c.args.runs.now.items (c.args.place.run + 1) c.requires.runs

pub returns : goal.returns
returns c =
    let p = c.args.place in
    let runs = c.args.runs.now.items in
    let r = c.requires.place in
    let h : p.run < length runs = omega (arith, r.run) in
    ap (λ f. f ++ joined c.runs_after.result.now) c.rest_of_run.ensures
    ∙ ap (λ o. drop p.at (get_or runs p.run []) ++ joined o) c.runs_after.ensures ∙ joined_from runs p.run (p.run + 1) p.at refl h r.at
