use Rattle.root_answers.proofs.Completed.{check_completes}
use Rattle.root_answers.proofs.Ends.{check_ends}
use Rattle.root_answers.specs.Run.{run_states}
use Rattle.root_answers.proofs.runs.run_check.Goals as goal

pub returns-clause-ends : goal.returns-clause-ends
returns-clause-ends g c =
    let old = run_states (g.F.Folder.state c.args.folder.now) (g.S.Store.state c.args.store.now) (g.D.Disk.state c.args.disk.now) (g.O.Sink.state c.args.output.now) in
    let new = run_states (g.F.Folder.state c.check_root-outcome.new.folder) (g.S.Store.state c.check_root-outcome.new.store) (g.D.Disk.state c.check_root-outcome.new.disk)
    (g.O.Sink.state c.end_check-status.new.output) in
    check_ends c.args.asked.now c.end_check-status.result old new c.check_root-outcome.result c.check_root-outcome.ensures c.end_check-status.ensures

pub returns-clause-completes : goal.returns-clause-completes
returns-clause-completes g c =
    let old = run_states (g.F.Folder.state c.args.folder.now) (g.S.Store.state c.args.store.now) (g.D.Disk.state c.args.disk.now) (g.O.Sink.state c.args.output.now) in
    let new = run_states (g.F.Folder.state c.check_root-outcome.new.folder) (g.S.Store.state c.check_root-outcome.new.store) (g.D.Disk.state c.check_root-outcome.new.disk)
    (g.O.Sink.state c.end_check-status.new.output) in
    check_completes c.args.asked.now c.end_check-status.result old new
    (check_ends c.args.asked.now c.end_check-status.result old new c.check_root-outcome.result c.check_root-outcome.ensures c.end_check-status.ensures)
