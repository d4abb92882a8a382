-- How a script ends. A line's first word is a comment if it begins with `#`. The others are `put`, `drop` and `update`, which their first
-- bytes tell apart.
use Rattle.std.specs.Prelude.{ℕ, Bool, true, false, ◌||◌, ◌==◌, if◌then◌else◌}
use Rattle.tree_real.specs.declared.script_end.ScriptEnd.{ScriptEnd}

abbrev pub end_with : Bool → ℕ → ScriptEnd
end_with in_line command = record { in_line = in_line; command = command }

-- an empty script
abbrev pub begun : ScriptEnd
begun = end_with false 0

-- One byte more. A line feed ends the line. The first byte of a line's first word is that of a command, unless it begins a comment.
abbrev pub step : ScriptEnd → ℕ → ScriptEnd
step end byte =
    if byte == 10 then end_with false end.command else
    if byte == 32 || byte == 9 then end else
    if end.in_line || byte == 35 then end_with true end.command else
    end_with true byte

-- the last command is `put` or `drop`
abbrev pub is_edit : ScriptEnd → Bool
is_edit end = end.command == 112 || end.command == 100
