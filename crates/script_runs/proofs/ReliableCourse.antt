-- The assumption on identities holds for each session of a script.
use Rattle.std.proofs.Common.{◌≡◌, ◌+◌, ℕ, List, [], ◌∷◌, All, Option, Some, Result, Ok, Err, subst, sym}
use Rattle.std.proofs.lemmas.List.Elements.{All-cons, All-head, All-nil, All-tail, All-weaker}
use Rattle.hwcap_dirs.specs.declared.kinds.Scope.TheVariants.{Image}
use Rattle.ldconfig_core.specs.Outcome.{Lacking, Outcome, TooLarge, TooMany, Writes, update_outcome}
use Rattle.ldconfig_core.specs.Settled.{planned_image}
use Rattle.image_tree.specs.Tree.{Nodes}
use Rattle.image_session.specs.Session.{Loaded}
use Rattle.manifest_words.specs.declared.fault.LineKind.{LineKind}
use Rattle.script_lines.specs.Script.{line_of}
use Rattle.script_lines.specs.declared.line.ScriptLine.{ScriptLine}
use Rattle.script_lines.specs.declared.line.ScriptLine.TheVariants as asking
use Rattle.aux_cache.specs.declared.stamps.Stamp.{Stamp}
use Rattle.library_search.proofs.Reliable.{stamps_true}
use Rattle.library_search.specs.Ldconfig.{stamps_in}
use Rattle.file_stamps.specs.Stamped.{AreSame, AreTrue}
use Rattle.tree_face.specs.Known.{IfKnown}
use Rattle.tree_face.specs.Store.{Contents}
use Rattle.script_runs.specs.Course.{AreReliable, Course, IsReliable, course, course_by, course_of_update, goes_on, trees_of}
use Rattle.script_runs.specs.Run.{after_line}
use Rattle.script_runs.specs.declared.fault.LineFault.{LineFault}
use Rattle.script_runs.proofs.EditedImage.{IsEdit, edit_is}

-- a property of contents that are known
pub knowing : (held : Contents) (P : Contents → Type 0) (known : Option Contents) → known ≡ Some held → IfKnown known P → P held
knowing held P known is given = subst (λ (known : Option Contents). IfKnown known P) is given

-- the stamps of an update of this session are true of each tree whose files of equal identity have equal content
pub made_true : (held : Contents) (s : Loaded) → IsReliable held s → (t : Nodes) → AreSame held s.tree t → AreTrue held t (stamps_in Image held s.tree s.stamps)
made_true held s here t same = stamps_true Image held s.tree here.1 s.stamps here.0 t same

module _ (held : Contents) (s : Loaded) where
  -- files of equal identity have equal content in the later images
  same_later : (images : List Loaded) → AreReliable held s.stamps (s ∷ images) → All (λ t. All (AreSame held t) (trees_of images)) (trees_of images)
  same_later images reliable =
      let trees = trees_of images in
      All-weaker (λ t. All (AreSame held t) (s.tree ∷ trees)) (λ t. All (AreSame held t) trees) (λ t same. All-tail (AreSame held t) s.tree trees same) trees
      (All-tail (λ t. All (AreSame held t) (s.tree ∷ trees)) s.tree trees reliable.same)

  -- the stamps of the first image are true of the later ones
  pub later_is : (images : List Loaded) → AreReliable held s.stamps (s ∷ images) → AreReliable held s.stamps images
  later_is images reliable = record { same = same_later images reliable; are_true = All-tail (λ t. AreTrue held t s.stamps) s.tree (trees_of images) reliable.are_true }

  pub first_is : (images : List Loaded) → AreReliable held s.stamps (s ∷ images) → IsReliable held s
  first_is images reliable = (
    All-head (λ t. AreTrue held t s.stamps) s.tree (trees_of images) reliable.are_true,
    All-head (AreSame held s.tree) s.tree (trees_of images) (All-head (λ t. All (AreSame held t) (trees_of (s ∷ images))) s.tree (trees_of images) reliable.same),
  )

  -- the stamps of an update are true of the later images
  pub next_is : (images : List Loaded) → AreReliable held s.stamps (s ∷ images) → AreReliable held (planned_image Image held s).stamps images
  next_is images reliable =
      let here = first_is images reliable in
      let trees = trees_of images in
      let to_first : All (AreSame held s.tree) trees =
      All-tail (AreSame held s.tree) s.tree trees (All-head (λ t. All (AreSame held t) (s.tree ∷ trees)) s.tree trees reliable.same) in
      record {
        same = same_later images reliable;
        are_true = All-weaker (AreSame held s.tree) (λ t. AreTrue held t (stamps_in Image held s.tree s.stamps)) (λ t same. made_true held s here t same) trees to_first;
      }

-- ---- each session whose update is asked for meets the assumption

module _ (held : Contents) where
  abbrev AreEach : Loaded → Course → Type 0
  AreEach s c = AreReliable held s.stamps c.asked → All (IsReliable held) c.asked

  one_reliable : (s : Loaded) → AreReliable held s.stamps (s ∷ []) → All (IsReliable held) (s ∷ [])
  one_reliable s reliable = All-cons (IsReliable held) s [] (first_is held s [] reliable) (All-nil (IsReliable held))

  update_reliable : (s : Loaded) (outcome : Outcome) (rest : Loaded → Course) → AreEach (planned_image Image held s) (rest (planned_image Image held s)) → AreEach s (course_of_update held s outcome rest)
  update_reliable s Writes rest are reliable =
      let images = (rest (planned_image Image held s)).asked in
      All-cons (IsReliable held) s images (first_is held s images reliable) (are (next_is held s images reliable))
  update_reliable s Lacking rest are reliable = one_reliable s reliable
  update_reliable s (TooLarge nodes bytes) rest are reliable = one_reliable s reliable
  update_reliable s (TooMany count) rest are reliable = one_reliable s reliable

  module _ (number : ℕ) (s : Loaded) (rest : Loaded → Course) (are : (session : Loaded) → AreEach session (rest session)) where
    edit_reliable : (one : Result Loaded LineFault) → IsEdit s one → AreEach s (goes_on number one rest)
    edit_reliable (Ok session) is reliable = are session (subst (λ (stamps : List Stamp). AreReliable held stamps (rest session).asked) (sym is.0) reliable)
    edit_reliable (Err fault) is reliable = All-nil (IsReliable held)

    line_reliable : (asked : Result ScriptLine LineKind) → AreEach s (course_by held number asked s rest)
    line_reliable (Ok asking.Update) = update_reliable s (update_outcome Image held s) rest (are (planned_image Image held s))
    line_reliable (Ok asking.Ignored) = edit_reliable (after_line (Ok asking.Ignored) s) (edit_is s (Ok asking.Ignored))
    line_reliable (Ok (asking.Put entry)) = edit_reliable (after_line (Ok (asking.Put entry)) s) (edit_is s (Ok (asking.Put entry)))
    line_reliable (Ok (asking.Drop path)) = edit_reliable (after_line (Ok (asking.Drop path)) s) (edit_is s (Ok (asking.Drop path)))
    line_reliable (Err kind) = edit_reliable (after_line (Err kind) s) (edit_is s (Err kind))

  pub each_reliable : (lines : List (List ℕ)) (number : ℕ) (s : Loaded) → AreReliable held s.stamps (course held number lines s).asked → All (IsReliable held) (course held number lines s).asked
  each_reliable [] number s = λ reliable. All-nil (IsReliable held)
  each_reliable (line ∷ lines) number s = line_reliable number s (λ session. course held (1 + number) lines session) (λ session. each_reliable lines (1 + number) session) (line_of line)
