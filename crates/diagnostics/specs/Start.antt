-- The exit statuses of a start that fails.
use Rattle.std.specs.Prelude.{ℕ}
use Rattle.command_status.specs.Status.{row_of}
use Rattle.command_status.specs.declared.status.Status.TheVariants as statuses
use Rattle.diagnostics.specs.declared.start.StartFault.{StartFault}
use Rattle.diagnostics.specs.declared.start.StartFault.TheVariants.{NoMemory, Other}

-- the exit status for out of memory, or one that no command ends with
abbrev pub code_of : StartFault → ℕ
code_of NoMemory = (row_of statuses.NoMemory).code
code_of Other = 20
