-- Every session that is updated is one of those whose update was asked for.
use Rattle.std.proofs.Common.{◌+◌, ℕ, List, [], ◌∷◌, All, Result, Ok, Err}
use Rattle.std.specs.List.{Contains}
use Rattle.std.proofs.lemmas.List.Elements.{All-cons, All-contains_itself, All-head, All-nil, All-weaker, Contains-append_right}
use Rattle.hwcap_dirs.specs.declared.kinds.Scope.TheVariants.{Image}
use Rattle.ldconfig_core.specs.Outcome.{Lacking, Outcome, TooLarge, TooMany, Writes, update_outcome}
use Rattle.ldconfig_core.specs.Settled.{planned_image}
use Rattle.image_session.specs.Session.{Loaded}
use Rattle.manifest_words.specs.declared.fault.LineKind.{LineKind}
use Rattle.script_lines.specs.Script.{line_of}
use Rattle.script_lines.specs.declared.line.ScriptLine.{ScriptLine}
use Rattle.script_lines.specs.declared.line.ScriptLine.TheVariants as asking
use Rattle.tree_face.specs.Store.{Contents}
use Rattle.script_runs.specs.declared.fault.LineFault.{LineFault}
use Rattle.script_runs.specs.Course.{Course, course, course_by, course_of_update, goes_on}
use Rattle.script_runs.specs.Run.{after_line}

-- ---- lists

pub contains_first : (u : Loaded) (images : List Loaded) → Contains (u ∷ images) u
contains_first u images = All-head (Contains (u ∷ images)) u images (All-contains_itself (u ∷ images))

pub contains_later : (v : Loaded) (images : List Loaded) (u : Loaded) → Contains images u → Contains (v ∷ images) u
contains_later v images u there = Contains-append_right (v ∷ []) images u there

-- ---- an update that is made was asked for

abbrev pub AreAsked : Course → Type 0
AreAsked course = All (Contains course.asked) course.updates

none_asked : (asked : List Loaded) → All (Contains asked) []
none_asked asked = All-nil (Contains asked)

update_asked : (held : Contents) (s : Loaded) (outcome : Outcome) (rest : Loaded → Course) → AreAsked (rest (planned_image Image held s)) → AreAsked (course_of_update held s outcome rest)
update_asked held s Writes rest are =
    let next = rest (planned_image Image held s) in
    All-cons (Contains (s ∷ next.asked)) s next.updates (contains_first s next.asked)
    (All-weaker (Contains next.asked) (Contains (s ∷ next.asked)) (λ u there. contains_later s next.asked u there) next.updates are)
update_asked held s Lacking rest are = none_asked (s ∷ [])
update_asked held s (TooLarge nodes bytes) rest are = none_asked (s ∷ [])
update_asked held s (TooMany count) rest are = none_asked (s ∷ [])

edit_asked : (number : ℕ) (one : Result Loaded LineFault) (rest : Loaded → Course) → ((session : Loaded) → AreAsked (rest session)) → AreAsked (goes_on number one rest)
edit_asked number (Ok session) rest are = are session
edit_asked number (Err fault) rest are = none_asked []

line_asked : (held : Contents) (number : ℕ) (asked : Result ScriptLine LineKind) (s : Loaded) (rest : Loaded → Course) → ((image : Loaded) → AreAsked (rest image))
    → AreAsked (course_by held number asked s rest)
line_asked held number (Ok asking.Update) s rest are = update_asked held s (update_outcome Image held s) rest (are (planned_image Image held s))
line_asked held number (Ok asking.Ignored) s rest are = edit_asked number (after_line (Ok asking.Ignored) s) rest are
line_asked held number (Ok (asking.Put entry)) s rest are = edit_asked number (after_line (Ok (asking.Put entry)) s) rest are
line_asked held number (Ok (asking.Drop path)) s rest are = edit_asked number (after_line (Ok (asking.Drop path)) s) rest are
line_asked held number (Err kind) s rest are = edit_asked number (after_line (Err kind) s) rest are

pub are_asked : (held : Contents) (lines : List (List ℕ)) (number : ℕ) (s : Loaded) → AreAsked (course held number lines s)
are_asked held [] number s = none_asked []
are_asked held (line ∷ lines) number s = line_asked held number (line_of line) s (λ image. course held (1 + number) lines image) (λ image. are_asked held lines (1 + number) image)
