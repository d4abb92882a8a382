-- The parts of a fault line.
use Rattle.std.specs.Prelude.{ℕ, List, ◌++◌}
use Rattle.lib_types.specs.Defects.{number_text}
use Rattle.command_status.specs.declared.fault_line.FaultLine.{FaultLine}

-- what is before the number
abbrev pub front_bytes : FaultLine → List ℕ
front_bytes l = l.lead.now ++ l.front.now

abbrev pub line_bytes : FaultLine → List ℕ
line_bytes l = front_bytes l ++ number_text l.number ++ l.back.now
