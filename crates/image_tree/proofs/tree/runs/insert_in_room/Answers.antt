use Rattle.std.proofs.Common.{ap, get_or, [], arith, ◌∙◌}
use Rattle.std.specs.List.{insert}
use Rattle.std.proofs.lemmas.List.Edits.{length-insert}
use Rattle.image_tree.proofs.Runs.{inserted_in_run, all_set, is_run_from}
use Rattle.image_tree.specs.Runs.{joined, are_runs, is_run}
use Rattle.image_tree.proofs.tree.runs.insert_in_room.Goals as goal

pub returns-clause-done : goal.returns-clause-done
returns-clause-done c =
    let p = c.args.place in
    let r = c.requires.place in
    ap joined c.in_ok-insert_in_run.ensures.done ∙ inserted_in_run c.args.runs.now.items p.run p.at r.run (c.args.path.now, c.args.node) r.at

pub returns-clause-runs : goal.returns-clause-runs
returns-clause-runs c =
    let runs = c.args.runs.now.items in
    let p = c.args.place in
    let r = c.requires.place in
    let run = get_or runs p.run [] in
    let l = length-insert run p.at (c.args.path.now, c.args.node) r.at in
    let room = r.room in
    ap are_runs c.in_ok-insert_in_run.ensures.done ∙ all_set is_run runs p.run _ c.requires.runs (is_run_from (insert run p.at (c.args.path.now, c.args.node)) (omega arith) (omega arith))
