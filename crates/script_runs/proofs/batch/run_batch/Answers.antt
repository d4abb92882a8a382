use Rattle.std.proofs.Common.{Result, Ok, Err, IfOk, Vec, Global, ℕ}
use Rattle.tree_face.specs.declared.stream.ReadFault.{ReadFault}
use Rattle.script_runs.proofs.LoadedScript.{facts}
use Rattle.script_runs.proofs.NotUsage.{no_usage_input}
use Rattle.script_runs.specs.Batch.{AfterInput}
use Rattle.script_runs.specs.Run.{lines_of}
use Rattle.script_runs.specs.Stored.{StoredFacts}
use Rattle.update_runs.specs.Update.{States, states}
use Rattle.script_runs.proofs.batch.run_batch.Goals as goal

pub returns-clause-runs : goal.returns-clause-runs
returns-clause-runs g c = record {
  before = g.O.Sink.state c.batch-status.new.sink;
  runs = c.batch-status.ensures;
  line = c.put_fault_line.ensures;
  facts = by c.batch-status.ensures.script c.batch-status.ensures.runs;
}
  where
    old : States
    old = states (g.S.Store.state c.args.store.now) (g.D.Disk.state c.args.disk.now) (g.O.Sink.state c.args.sink.now)

    new : States
    new = states (g.S.Store.state c.batch-status.new.store) (g.D.Disk.state c.batch-status.new.disk) (g.O.Sink.state c.batch-status.new.sink)

    by : (script : Result (Vec ℕ Global) ReadFault) → AfterInput c.args.by.tag script c.batch-status.result old new → IfOk script (λ text. StoredFacts c.args.by.tag (lines_of text.items) c.batch-status.result old new)
    by (Ok text) runs = facts c.args.by.tag (lines_of text.items) c.batch-status.result old new (g.met.D.Disk.moments c.args.disk.now) runs
    by (Err fault) runs = tt

pub returns-clause-no_usage : goal.returns-clause-no_usage
returns-clause-no_usage g c usage = no_usage_input c.args.by.tag c.batch-status.result _ _ _ _ c.batch-status.ensures usage
