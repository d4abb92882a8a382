use Rattle.std.proofs.Common.{◌+◌, Result}
use Rattle.image_session.specs.Session.{Loaded}
use Rattle.update_runs.specs.Update.{States, states}
use Rattle.script_runs.specs.declared.fault.ScriptFault.{ScriptFault}
use Rattle.script_runs.specs.Run.{RunsLines, lines_of}
use Rattle.script_runs.proofs.lines.run_lines.Given as goal

-- running the remaining lines from here completes a run of all lines
abbrev pub invariant-loop-line : goal.invariant-loop-line
invariant-loop-line g l =
    (to : Result Loaded ScriptFault) (new : States)
    → RunsLines l.by.tag (1 + l.taken) l.line-iterator l.image to (states (g.S.Store.state l.store) (g.D.Disk.state l.disk) (g.O.Sink.state l.sink)) new
    → RunsLines l.fn.by.tag 1 (lines_of l.fn.text) l.fn.session to (states (g.S.Store.state l.fn.store) (g.D.Disk.state l.fn.disk) (g.O.Sink.state l.fn.sink)) new
