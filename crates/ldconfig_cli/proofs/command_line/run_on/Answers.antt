use Rattle.ldconfig_cli.proofs.Laws.{laws}
use Rattle.ldconfig_cli.proofs.command_line.run_on.Goals as goal

pub returns-clause-laws : goal.returns-clause-laws
returns-clause-laws g c = laws
