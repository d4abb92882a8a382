use Rattle.std.proofs.Common.{refl}
use Rattle.layer_runs.proofs.Adopted.{layers_facts}
use Rattle.layer_runs.proofs.Completed.{completes, refuses}
use Rattle.layer_runs.proofs.Statuses.{is_bad_layer, no_usage}
use Rattle.layer_runs.proofs.layers.run_layers.Goals as goal

pub returns-clause-runs : goal.returns-clause-runs
returns-clause-runs g c = λ source. record {
  before = g.O.Sink.state c.layers-status.new.sink;
  runs = c.layers-status.ensures;
  line = c.put_fault_line.ensures;
  facts = layers_facts c.args.keys.now c.layers-status.result _ _ (g.met.D.Disk.moments c.args.disk.now) c.layers-status.ensures;
  bad_layer = λ number kind is. is_bad_layer number kind c.args.keys.now c.layers-status.result _ _ c.layers-status.ensures is;
  refuses = refuses c.args.keys.now c.layers-status.result _ _ c.layers-status.ensures;
  completes = completes c.args.keys.now c.layers-status.result _ _ (g.met.D.Disk.moments c.args.disk.now) c.layers-status.ensures;
  source = refl;
}

pub returns-clause-no_usage : goal.returns-clause-no_usage
returns-clause-no_usage g c usage = no_usage c.args.keys.now c.layers-status.result _ _ c.layers-status.ensures usage
