use Rattle.root_answers.proofs.Completed.{update_completes}
use Rattle.root_answers.proofs.Ends.{update_ends}
use Rattle.root_answers.specs.Run.{run_states}
use Rattle.root_answers.proofs.runs.run_update.Goals as goal

pub returns-clause-ends : goal.returns-clause-ends
returns-clause-ends g c =
    let old = run_states (g.F.Folder.state c.args.folder.now) (g.S.Store.state c.args.store.now) (g.D.Disk.state c.args.disk.now) (g.O.Sink.state c.args.output.now) in
    let new = run_states (g.F.Folder.state c.update_root-outcome.new.folder) (g.S.Store.state c.update_root-outcome.new.store) (g.D.Disk.state c.update_root-outcome.new.disk)
    (g.O.Sink.state c.end_update-status.new.output) in
    update_ends c.args.asked.now c.end_update-status.result old new c.update_root-outcome.result c.update_root-outcome.ensures.updates c.update_root-outcome.ensures.planned c.end_update-status.ensures

pub returns-clause-completes : goal.returns-clause-completes
returns-clause-completes g c =
    let old = run_states (g.F.Folder.state c.args.folder.now) (g.S.Store.state c.args.store.now) (g.D.Disk.state c.args.disk.now) (g.O.Sink.state c.args.output.now) in
    let new = run_states (g.F.Folder.state c.update_root-outcome.new.folder) (g.S.Store.state c.update_root-outcome.new.store) (g.D.Disk.state c.update_root-outcome.new.disk)
    (g.O.Sink.state c.end_update-status.new.output) in
    update_completes c.args.asked.now c.end_update-status.result old new
    (update_ends c.args.asked.now c.end_update-status.result old new c.update_root-outcome.result c.update_root-outcome.ensures.updates c.update_root-outcome.ensures.planned c.end_update-status.ensures)
