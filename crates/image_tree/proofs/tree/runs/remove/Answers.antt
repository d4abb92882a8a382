use Rattle.std.proofs.Common.{◌<◌, [], set, get_or, length, arith, ◌∙◌}
use Rattle.std.proofs.lemmas.List.{length-set}
use Rattle.std.proofs.lemmas.List.Edits.{length-remove}
use Rattle.std.specs.List.{remove}
use Rattle.image_tree.proofs.Runs.{joined_tidied, runs_tidied, removed_in_run, run_bounds_at}
use Rattle.image_tree.proofs.tree.runs.remove.Goals as goal

pub returns-clause-joined : goal.returns-clause-joined
returns-clause-joined c =
    let runs = c.args.runs.now.items in
    let p = c.args.place in
    let r = c.requires.place in
    let x = remove (get_or runs p.run []) p.at in
    let h : p.run < length (set runs p.run x) = omega (arith, length-set runs p.run x, r.run) in
    rw (c.remove_if_empty.ensures, c.remove_in_run.ensures) (joined_tidied (set runs p.run x) p.run h ∙ removed_in_run runs p.run p.at r.run r.at)

pub returns-clause-runs : goal.returns-clause-runs
returns-clause-runs c =
    let runs = c.args.runs.now.items in
    let p = c.args.place in
    let r = c.requires.place in
    let run = get_or runs p.run [] in
    let b = run_bounds_at runs p.run c.requires.runs r.run in
    let l = length-remove run p.at r.at in
    rw (c.remove_if_empty.ensures, c.remove_in_run.ensures) (runs_tidied runs p.run (remove run p.at) c.requires.runs r.run (omega arith))
