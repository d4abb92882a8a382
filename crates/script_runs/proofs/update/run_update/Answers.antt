use Rattle.std.proofs.Common.{refl}
use Rattle.script_runs.proofs.LoadedScript.{facts}
use Rattle.script_runs.proofs.NotUsage.{no_usage_stored}
use Rattle.script_runs.specs.Stored.{one_update}
use Rattle.script_runs.proofs.update.run_update.Goals as goal

pub returns-clause-runs : goal.returns-clause-runs
returns-clause-runs g c = λ source. record {
  before = g.O.Sink.state c.update-status.new.sink;
  runs = c.update-status.ensures;
  line = c.put_fault_line.ensures;
  facts = facts c.args.by.tag one_update c.update-status.result _ _ (g.met.D.Disk.moments c.args.disk.now) c.update-status.ensures;
  source = refl;
}

pub returns-clause-no_usage : goal.returns-clause-no_usage
returns-clause-no_usage g c usage = no_usage_stored c.args.by.tag one_update c.update-status.result _ _ c.update-status.ensures usage
