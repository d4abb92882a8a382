-- The expected run of a script, from its lines, its session and the contents alone: which sessions are updated, and how it ends.
use Rattle.std.specs.Prelude.{◌+◌, ℕ, List, [], ◌∷◌, map, Result, Ok, Err}
use Rattle.std.specs.List.{All}
use Rattle.hwcap_dirs.specs.declared.kinds.Scope.TheVariants.{Image}
use Rattle.aux_cache.specs.declared.stamps.Stamp.{Stamp}
use Rattle.image_tree.specs.Tree.{Nodes}
use Rattle.ldconfig_core.specs.Outcome.{Lacking, Outcome, TooLarge, TooMany, Writes, update_outcome}
use Rattle.ldconfig_core.specs.Settled.{planned_image}
use Rattle.ldconfig_core.specs.declared.fault.UpdateFault.{UpdateFault}
use Rattle.ldconfig_core.specs.declared.fault.UpdateFault.TheVariants as updating
use Rattle.image_session.specs.Session.{Loaded}
use Rattle.manifest_words.specs.declared.fault.LineKind.{LineKind}
use Rattle.script_lines.specs.Script.{line_of}
use Rattle.script_lines.specs.declared.line.ScriptLine.{ScriptLine}
use Rattle.script_lines.specs.declared.line.ScriptLine.TheVariants as asking
use Rattle.file_stamps.specs.Stamped.{AreSame, AreTrue}
use Rattle.tree_face.specs.Store.{Contents}
use Rattle.update_runs.specs.declared.fault.UpdatingFault.TheVariants.{Update}
use Rattle.script_runs.specs.declared.fault.LineFault.{LineFault}
use Rattle.script_runs.specs.declared.fault.ScriptFault.{ScriptFault}
use Rattle.script_runs.specs.declared.fault.ScriptFault.TheVariants.{Updating}
use Rattle.script_runs.specs.Faults.{numbered}
use Rattle.script_runs.specs.Run.{after_line}

-- the run if no device fails and memory suffices
pub record Course : Type 0 where
  -- the sessions whose updates are asked for, up to the first update that isn't made
  pub asked : List Loaded
  -- the sessions that are updated
  pub updates : List Loaded
  -- the session at the end, or the fault
  pub end : Result Loaded ScriptFault

abbrev pub ends : Result Loaded ScriptFault → Course
ends to = record { asked = []; updates = []; end = to }

-- an update that isn't made ends the script
abbrev pub refused : Loaded → UpdateFault → Course
refused s fault = record { asked = s ∷ []; updates = []; end = Err (Updating (Update fault)) }

-- after an update that is made, the run goes on with the planned links
abbrev pub course_of_update : Contents → Loaded → Outcome → (Loaded → Course) → Course
course_of_update held s Lacking rest = refused s updating.StoreFault
course_of_update held s (TooLarge nodes bytes) rest = refused s (updating.TooLarge nodes bytes)
course_of_update held s (TooMany count) rest = refused s (updating.TooMany count)
course_of_update held s Writes rest = record {
  asked = s ∷ (rest (planned_image Image held s)).asked;
  updates = s ∷ (rest (planned_image Image held s)).updates;
  end = (rest (planned_image Image held s)).end;
}

abbrev pub goes_on : ℕ → Result Loaded LineFault → (Loaded → Course) → Course
goes_on number (Ok session) rest = rest session
goes_on number (Err fault) rest = ends (Err (numbered number fault))

abbrev pub course_by : Contents → ℕ → Result ScriptLine LineKind → Loaded → (Loaded → Course) → Course
course_by held number (Ok asking.Update) s rest = course_of_update held s (update_outcome Image held s) rest
course_by held number asked s rest = goes_on number (after_line asked s) rest

-- the run of these lines from a session on, if the first line has this number
abbrev pub course : Contents → ℕ → List (List ℕ) → Loaded → Course
course held number [] s = ends (Ok s)
course held number (line ∷ lines) s = course_by held number (line_of line) s (λ session. course held (1 + number) lines session)

-- ---- the assumption on identities

-- the stamps of the session are true, and its files of equal identity have equal content
abbrev pub IsReliable : Contents → Loaded → Type 0
IsReliable held s = AreTrue held s.tree s.stamps × AreSame held s.tree s.tree

abbrev pub trees_of : List Loaded → List Nodes
trees_of sessions = map (λ (session : Loaded). session.tree) sessions

-- Files of equal identity have equal content, within one of these sessions and between any two, and the stamps are true of each session.
pub record AreReliable (held : Contents) (stamps : List Stamp) (sessions : List Loaded) : Type 0 where
  pub same : All (λ t. All (AreSame held t) (trees_of sessions)) (trees_of sessions)
  pub are_true : All (λ t. AreTrue held t stamps) (trees_of sessions)
