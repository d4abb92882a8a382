use Rattle.std.proofs.Common.{sym, ap, subst, ◌≡◌, true, set, get_or, [], List, ℕ, ◌∙◌, arith}
use Rattle.std.proofs.lemmas.List.{length-set}
use Rattle.image_tree.proofs.Runs.{set_in_run, entry_is, all_set, is_run_from, run_bounds_at}
use Rattle.image_tree.specs.Runs.{joined, is_run, are_runs, index_of}
use Rattle.image_tree.specs.declared.node.Node.{Node}
use Rattle.image_tree.specs.declared.node.Node.TheVariants.{Dir}
use Rattle.image_tree.proofs.tree.runs.set_node.Goals as goal

pub returns-clause-joined : goal.returns-clause-joined
returns-clause-joined c = λ d.
    let runs = c.args.runs.now.items in
    let p = c.args.place in
    let r = c.requires.place in
    ap joined (c.set_in_run.ensures d) ∙ set_in_run runs p.run p.at r.run _ r.at
    ∙ ap (λ (e : List ℕ × Node). set (joined runs) (index_of runs p) (e.0, c.args.node)) (sym (entry_is runs p.run p.at r.run r.at d))

pub returns-clause-runs : goal.returns-clause-runs
returns-clause-runs c =
    let runs = c.args.runs.now.items in
    let p = c.args.place in
    let d : List ℕ × Node = ([], Dir) in
    let run = get_or runs p.run [] in
    let b = run_bounds_at runs p.run c.requires.runs c.requires.place.run in
    let e : List ℕ × Node = ((get_or run p.at d).0, c.args.node) in
    let l = length-set run p.at e in
    subst (λ rs. are_runs rs ≡ true) (sym (c.set_in_run.ensures d)) (all_set is_run runs p.run _ c.requires.runs (is_run_from (set run p.at e) (omega arith) (omega arith)))
