-- A row of the table, with the bytes of its fault line.
use Rattle.std.specs.Prelude.{option_map}
use Rattle.command_status.specs.FaultLine.{line_bytes}
use Rattle.command_status.specs.Status as table
use Rattle.command_status.specs.declared.status.Row.{Row}

abbrev pub row_bytes : Row → table.Row
row_bytes row = record { code = row.code; fault = option_map line_bytes row.fault }
