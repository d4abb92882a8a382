use Rattle.std.proofs.Common.{inr}
use Rattle.ldconfig_cli.proofs.Laws.{laws}
use Rattle.ldconfig_cli.proofs.command_line.run.Goals as goal

pub returns-in-Ok-clause-runs : goal.returns-in-Ok-clause-runs
returns-in-Ok-clause-runs g c = inr (rw c.in-Ok.ensures.texts at c.run_on.ensures.runs)

pub returns-in-Ok-clause-laws : goal.returns-in-Ok-clause-laws
returns-in-Ok-clause-laws g c = laws

pub returns-in-Err-clause-laws : goal.returns-in-Err-clause-laws
returns-in-Err-clause-laws g c = laws
