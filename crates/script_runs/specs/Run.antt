-- The run of a script of a session. Its lines are done in order, each with the session and the devices that the lines before it left.
use Rattle.std.specs.Prelude.{◌≡◌, ◌⊎◌, ◌+◌, ℕ, List, [], ◌∷◌, codes, Result, Ok, Err}
use Rattle.std.specs.List.{slice_split}
use Rattle.lib_types.specs.Sets.{is_in}
use Rattle.image_session.specs.Edit.{drop_result, put_entry_result}
use Rattle.image_session.specs.Session.{Loaded}
use Rattle.manifest_words.specs.declared.fault.LineKind.{LineKind}
use Rattle.script_lines.specs.Script.{line_of}
use Rattle.script_lines.specs.declared.line.ScriptLine.{ScriptLine}
use Rattle.script_lines.specs.declared.line.ScriptLine.TheVariants as asking
use Rattle.tree_face.specs.declared.disk.Tag.{Tag}
use Rattle.command_status.specs.declared.status.ScriptKind.TheVariants as script
use Rattle.update_runs.specs.Update.{States, UpdatesTo}
use Rattle.update_runs.specs.declared.fault.UpdatingFault.{UpdatingFault}
use Rattle.script_runs.specs.declared.fault.LineFault.{LineFault}
use Rattle.script_runs.specs.declared.fault.LineFault.TheVariants as lines
use Rattle.script_runs.specs.declared.fault.ScriptFault.{ScriptFault}
use Rattle.script_runs.specs.Faults.{edited, numbered, updated}

-- the lines of a script, without their line feeds
abbrev pub lines_of : List ℕ → List (List ℕ)
lines_of text = slice_split (is_in (codes "\n")) text

-- ---- one line

-- the session after a line that asks for no update, or why the line isn't done
abbrev pub after_line : Result ScriptLine LineKind → Loaded → Result Loaded LineFault
after_line (Err kind) s = Err (lines.Bad (script.Bad kind))
after_line (Ok (asking.Put entry)) s = edited (put_entry_result s entry)
after_line (Ok (asking.Drop path)) s = edited (drop_result s path)
after_line (Ok _) s = Ok s

-- a session is updated
abbrev pub DoesUpdate : Tag → Loaded → Result Loaded LineFault → States → States → Type 0
DoesUpdate tag s to old new = (one : Result Loaded UpdatingFault) × (UpdatesTo tag s one old new × (to ≡ updated one))

-- the session is updated, or the line leaves the devices as they are
abbrev pub DoesLine : Tag → Result ScriptLine LineKind → Loaded → Result Loaded LineFault → States → States → Type 0
DoesLine tag (Ok asking.Update) s to old new = DoesUpdate tag s to old new
DoesLine tag asked s to old new = (to ≡ after_line asked s) × (new ≡ old)

-- the line is done, or memory runs out before anything is done
abbrev pub DoesLineOrNothing : Tag → Result ScriptLine LineKind → Loaded → Result Loaded LineFault → States → States → Type 0
DoesLineOrNothing tag asked s to old new = DoesLine tag asked s to old new ⊎ ((to ≡ Err lines.NoMemory) × (new ≡ old))

-- the line is accepted and done, or memory runs out before anything is done
abbrev pub TakesLine : Tag → List ℕ → Loaded → Result Loaded LineFault → States → States → Type 0
TakesLine tag line s to old new = DoesLineOrNothing tag (line_of line) s to old new

-- ---- all lines

-- the script goes on with a session, or ends at the line with this number
abbrev pub GoesOn : ℕ → Result Loaded LineFault → (Loaded → Type 0) → Result Loaded ScriptFault → States → States → Type 0
GoesOn number (Ok session) Rest to between new = Rest session
GoesOn number (Err fault) Rest to between new = (to ≡ Err (numbered number fault)) × (new ≡ between)

-- a script whose first line has this number ends after its last line with the session of that moment, or at the first line that isn't done
abbrev pub RunsLines : Tag → ℕ → List (List ℕ) → Loaded → Result Loaded ScriptFault → States → States → Type 0
RunsLines tag number [] s to old new = (to ≡ Ok s) × (new ≡ old)
RunsLines tag number (line ∷ lines) s to old new =
    (one : Result Loaded LineFault) × ((between : States) × (TakesLine tag line s one old between
    × GoesOn number one (λ session. RunsLines tag (1 + number) lines session to between new) to between new))
