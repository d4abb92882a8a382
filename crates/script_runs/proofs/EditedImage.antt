-- The effect of a line on a session, if the line asks for no update.
use Rattle.std.proofs.Common.{◌≡◌, ◌⊎◌, Bool, true, false, Some, None, is_some, Result, Ok, Err, if◌then◌else◌, refl, inl, inr}
use Rattle.image_tree.specs.Tree.{clashes, has_no_room, node_at}
use Rattle.image_session.specs.Edit.{with_node, without_node}
use Rattle.image_session.specs.Session.{Loaded}
use Rattle.image_session.specs.declared.fault.EditFault.TheVariants as editing
use Rattle.manifest_words.specs.declared.fault.LineKind.{LineKind}
use Rattle.script_lines.specs.declared.line.ScriptLine.{ScriptLine}
use Rattle.script_lines.specs.declared.line.ScriptLine.TheVariants as asking
use Rattle.command_status.specs.declared.status.ScriptKind.{ScriptKind}
use Rattle.command_status.specs.declared.status.ScriptKind.TheVariants as script
use Rattle.script_runs.specs.declared.fault.LineFault.{LineFault}
use Rattle.script_runs.specs.declared.fault.LineFault.TheVariants.{Bad}
use Rattle.script_runs.specs.Faults.{edited}
use Rattle.script_runs.specs.Run.{after_line}

-- the stamps stay, and the session stays or is edited; or the line isn't accepted
abbrev pub IsEdit : Loaded → Result Loaded LineFault → Type 0
IsEdit s (Ok session) = (session.stamps ≡ s.stamps) × ((session ≡ s) ⊎ (session.edited ≡ true))
IsEdit s (Err fault) = (kind : ScriptKind) × (fault ≡ Bad kind)

pub edit_is : (s : Loaded) (asked : Result ScriptLine LineKind) → IsEdit s (after_line asked s)
edit_is s (Err kind) = (script.Bad kind, refl)
edit_is s (Ok asking.Ignored) = (refl, inl refl)
edit_is s (Ok asking.Update) = (refl, inl refl)
edit_is s (Ok (asking.Put None)) = (refl, inl refl)
edit_is s (Ok (asking.Put (Some entry))) = by (clashes s.tree entry.0 entry.1) (has_no_room s.tree entry.0)
  where
    by : (clash full : Bool) → IsEdit s (edited (if clash then Err editing.Clash else if full then Err editing.Full else Ok (with_node s entry.0 entry.1)))
    by true full = (script.Clash, refl)
    by false true = (script.Full, refl)
    by false false = (refl, inr refl)
edit_is s (Ok (asking.Drop path)) = by (is_some (node_at s.tree path))
  where
    by : (there : Bool) → IsEdit s (edited (if there then Ok (without_node s path) else Err editing.NotThere))
    by true = (refl, inr refl)
    by false = (script.NotThere, refl)
