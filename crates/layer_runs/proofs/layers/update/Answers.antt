use Rattle.std.proofs.Common.{rules, Ok, Err, refl}
use Rattle.script_runs.proofs.OneUpdate.{one_line}
use Rattle.script_runs.specs.declared.fault.ScriptFault.TheVariants.{Updating}
use Rattle.layer_runs.proofs.layers.update.Goals as goal
use Rattle.layer_runs.specs.Run.{tag}

pub returns-in-Ok-update_once : goal.returns-in-Ok-update_once
returns-in-Ok-update_once g c = record {
  adopted = Ok c.in-Ok.session;
  between = g.D.Disk.state c.adopt.new.disk;
  adopts = c.in-Ok.ensures.adopts;
  after = (Ok c.in-Ok-update_once.updated, (refl, one_line tag c.in-Ok.session (Ok c.in-Ok-update_once.updated) _ _ c.in-Ok-update_once.ensures));
}

pub returns-in-Err-update_once : goal.returns-in-Err-update_once
returns-in-Err-update_once g c = record {
  adopted = Ok c.in-Ok.session;
  between = g.D.Disk.state c.adopt.new.disk;
  adopts = c.in-Ok.ensures.adopts;
  after = (Err (Updating c.in-Err-update_once.fault), (search rules, one_line tag c.in-Ok.session (Err c.in-Err-update_once.fault) _ _ c.in-Err-update_once.ensures));
}
