-- What a crash of a script of a session leaves, and what an update then writes.
use Rattle.std.specs.Prelude.{◌≡◌, ◌⊎◌, ◌++◌, ℕ, false, true, List, [], ◌∷◌, flat_map, Option, Result, Ok, Err}
use Rattle.std.specs.List.{All, Contains}
use Rattle.hwcap_dirs.specs.declared.kinds.Scope.TheVariants.{Image}
use Rattle.atomic_replace.specs.declared.fault.DiskFault.{DiskFault}
use Rattle.ldconfig_core.specs.Outcome.{Writes, update_outcome}
use Rattle.ldconfig_core.specs.Settled.{AreCachesAgain}
use Rattle.ldconfig_core.specs.Texts.{AreAlike, AreTexts, AreTextsOf, UpdateTexts, writes_of}
use Rattle.ldconfig_core.specs.declared.fault.UpdateFault.TheVariants as updating
use Rattle.image_session.specs.Session.{Loaded}
use Rattle.atomic_replace.specs.Replace.{StopsAt, call_by}
use Rattle.atomic_replace.specs.OneByOne.{IsOfWrites, LeavesOnlyWritten, calls_of}
use Rattle.library_search.specs.Ldconfig.{planned_in, stamps_in}
use Rattle.tree_face.specs.declared.disk.Slot.{Slot}
use Rattle.tree_face.specs.Disk.{Content, DiskState}
use Rattle.tree_face.specs.declared.disk.DoneCall.{DoneCall}
use Rattle.tree_face.specs.declared.disk.Tag.{Tag}
use Rattle.tree_face.specs.Follows.{IsFollowedBy}
use Rattle.tree_face.specs.Known.{IfKnown, Relates}
use Rattle.tree_face.specs.Store.{Contents}
use Rattle.update_runs.specs.declared.fault.UpdatingFault.TheVariants.{Update}
use Rattle.script_runs.specs.declared.fault.ScriptFault.{ScriptFault}
use Rattle.script_runs.specs.declared.fault.ScriptFault.TheVariants.{Updating}
use Rattle.script_runs.specs.Course.{Course, course}
use Rattle.script_runs.specs.Left.{IsUpdateOf}

-- ---- the writing calls

-- the calls of all these updates, in their order
abbrev pub calls_of_all : Tag → List UpdateTexts → List DoneCall
calls_of_all tag updates = flat_map (λ (texts : UpdateTexts). calls_of tag (writes_of texts)) updates

-- the calls of all updates but the last were made, those of the last one up to the call that failed, and perhaps that call
pub record StopsInLast (tag : Tag) (updates : List UpdateTexts) (fault : DiskFault) (a b : List DoneCall) : Type 0 where
  pub front : List UpdateTexts
  pub last : UpdateTexts
  pub parts : updates ≡ front ++ last ∷ []
  pub stops : StopsAt (call_by tag fault.slot fault.call) (calls_of tag (writes_of last)) (a ++ calls_of_all tag front) b

-- ---- what is left

-- a crash now leaves only what the last of these updates wrote
abbrev pub LeavesLast : List UpdateTexts → DiskState → Type 0
LeavesLast updates new = (front : List UpdateTexts) (last : UpdateTexts) → updates ≡ front ++ last ∷ [] → IfKnown new.contents (λ _. LeavesOnlyWritten (writes_of last) new)

-- the script hasn't ended
abbrev pub IsNotDone : Result Loaded ScriptFault → Type 0
IsNotDone to = (session : Loaded) → to ≡ Ok session → ⊥

-- no writing call failed
abbrev pub NoneFailed : Result Loaded ScriptFault → Type 0
NoneFailed to = (fault : DiskFault) → to ≡ Err (Updating (Update (updating.DiskFault fault))) → ⊥

-- these are the texts of updates of the first sessions in the list, in their order; after the last line, of all sessions
abbrev pub AreOfFirst : Contents → Result Loaded ScriptFault → List Loaded → List UpdateTexts → Type 0
AreOfFirst held to sessions [] = (session : Loaded) → to ≡ Ok session → sessions ≡ []
AreOfFirst held to [] (texts ∷ updates) = ⊥
AreOfFirst held to (u ∷ sessions) (texts ∷ updates) = IsUpdateOf held u texts × AreOfFirst held to sessions updates

-- these are texts of the updates that the script asks for, if the contents of the store are known
abbrev pub AreOfCourse : Option Contents → Result Loaded ScriptFault → (Contents → Course) → List UpdateTexts → Type 0
AreOfCourse known to course updates = IfKnown known (λ held. AreOfFirst held to (course held).updates updates)

-- the writing calls of these updates were made, up to the one that failed
pub record MakesCalls (tag : Tag) (updates : List UpdateTexts) (to : Result Loaded ScriptFault) (a b : List DoneCall) : Type 0 where
  pub all : NoneFailed to → IsFollowedBy (calls_of_all tag updates) a b
  pub part : (fault : DiskFault) → to ≡ Err (Updating (Update (updating.DiskFault fault))) → StopsInLast tag updates fault a b

pub record LeavesWholeCaches (tag : Tag) (known : Option Contents) (number : ℕ) (lines : List (List ℕ)) (s : Loaded) (to : Result Loaded ScriptFault) (old new : DiskState) : Type 0 where
  -- the updates that were made, and the one that a failing device ended; the caches of each are complete
  pub updates : List UpdateTexts
  pub are : All AreTexts updates
  pub of_course : AreOfCourse known to (λ held. course held number lines s) updates
  -- At each moment since the start, a crash leaves in a file what a crash at the start might have left there, or what one of these updates
  -- wrote.
  pub whole : (slot : Slot) (b : Content) → new.since old.time slot b ≡ true → (old.may slot b ≡ true) ⊎ IsOfWrites (flat_map writes_of updates) slot b
  -- at the end, a crash leaves only what the last one wrote, unless a writing call failed
  pub settled : NoneFailed to → LeavesLast updates new
  -- these updates made all the calls
  pub calls : Relates (MakesCalls tag updates to) old.calls new.calls

-- ---- a further update

-- A session that a crash may leave. It has the old tree, or the tree with the planned links of an update. It has the old stamps, or those
-- of an
-- update. It has no edits.
pub record MayBeLeft (held : Contents) (s : Loaded) (updates : List Loaded) (left : Loaded) : Type 0 where
  pub tree : (left.tree ≡ s.tree) ⊎ ((u : Loaded) × (Contains updates u × (left.tree ≡ planned_in Image held u.tree u.stamps)))
  pub stamps : (left.stamps ≡ s.stamps) ⊎ ((u : Loaded) × (Contains updates u × (left.stamps ≡ stamps_in Image held u.tree u.stamps)))
  pub fresh : left.edited ≡ false

-- its tree is the old one; if the old session isn't edited, both have the same outcome of an update and write the same
pub record IsOfOld (held : Contents) (s left : Loaded) : Type 0 where
  pub tree : left.tree ≡ s.tree
  pub outcome : s.edited ≡ false → update_outcome Image held left ≡ update_outcome Image held s
  pub again : s.edited ≡ false → (texts again : UpdateTexts) → AreTextsOf Image held s texts → AreTextsOf Image held left again → AreAlike texts again

-- its tree is that of an update of the session u; a further update is made, writes no manifest and the same caches as that update
pub record IsOfUpdate (held : Contents) (u left : Loaded) : Type 0 where
  pub tree : left.tree ≡ planned_in Image held u.tree u.stamps
  pub made : update_outcome Image held left ≡ Writes
  pub again : (texts again : UpdateTexts) → AreTextsOf Image held u texts → AreTextsOf Image held left again → AreCachesAgain texts again
