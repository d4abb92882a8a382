use Rattle.std.proofs.Common.{inr, refl, Err}
use Rattle.script_runs.specs.declared.fault.LineFault.TheVariants as line_end
use Rattle.script_runs.specs.declared.fault.ScriptFault.TheVariants.{NoMemory}
use Rattle.update_runs.specs.Update.{States, states}
use Rattle.script_runs.proofs.lines.run_lines.Goals as goal

pub returns-in_default : goal.returns-in_default
returns-in_default g c =
    let here : States = states (g.S.Store.state c.loop-line.store) (g.D.Disk.state c.loop-line.disk) (g.O.Sink.state c.loop-line.sink) in
    (rw c.in-Some.ensures.steps at c.loop-line.invariant) (Err NoMemory) here (Err line_end.NoMemory, (here, (inr (refl, refl), (refl, refl))))
