-- The command that the arguments name is the one that runs.
use Rattle.std.proofs.Common.{◌≡◌, Option, Some, None, subst, sym}
use Rattle.command_words.specs.declared.kinds.Command.{Command}
use Rattle.command_runs.specs.Commands.{RunsCommand}
use Rattle.tree_face.specs.Devices.{DeviceStates}
use Rattle.command_status.specs.declared.status.Status.{Status}
use Rattle.command_status.specs.declared.status.Status.TheVariants.{Usage}
use Rattle.ldconfig_cli.specs.Runs.{RunsAny, RunsArguments}
use Rattle.ldconfig_cli.specs.Usage.{UsageRun}

module _ (found : Option Command) (status : Status) (old new : DeviceStates) where
  pub by_some : (command : Command) → found ≡ Some command → RunsCommand command status old new → (status ≡ Usage → ⊥) → RunsArguments found status old new
  by_some command some run no_usage = record {
    usage = (λ usage. absurd (no_usage usage), λ none. absurd (cc (some, none)));
    runs = subst (λ (f : Option Command). RunsAny f status old new) (sym some) run;
  }

  pub by_none : found ≡ None → UsageRun old new status → RunsArguments found status old new
  by_none none run = record {
    usage = (λ usage. none, λ _. run.status_is);
    runs = subst (λ (f : Option Command). RunsAny f status old new) (sym none) run;
  }
