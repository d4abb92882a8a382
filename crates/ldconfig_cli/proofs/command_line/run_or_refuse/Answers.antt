use Rattle.std.proofs.Common.{rules}
use Rattle.ldconfig_cli.proofs.ByArguments.{by_none, by_some}
use Rattle.ldconfig_cli.proofs.command_line.run_or_refuse.Goals as goal

pub returns-in-Some : goal.returns-in-Some
returns-in-Some g c = by_some c.args.command _ _ _ c.in-Some.command c.in-Some.is c.run_command.ensures.runs c.run_command.ensures.no_usage

pub returns-in-None : goal.returns-in-None
returns-in-None g c = by_none c.args.command _ _ _ c.in-None.is (search rules)
