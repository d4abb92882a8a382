-- A script of the session that is loaded from the files: its run, what it leaves, and what a crash of it leaves.
use Rattle.std.specs.Prelude.{◌≡◌, ◌⊎◌, ℕ, true, List, [], ◌∷◌, codes, Option, Result, Ok, Err, IfOk, ⊤}
use Rattle.std.specs.List.{Contains}
use Rattle.hwcap_dirs.specs.declared.kinds.Scope.TheVariants.{Image}
use Rattle.tree_face.specs.Devices.{IfBothKnown}
use Rattle.ldconfig_core.specs.Outcome.{new_manifest}
use Rattle.ldconfig_core.specs.Repair.{IsImageIn, LeavesOnly, MightBeLeft}
use Rattle.lib_types.specs.Counts.{HasRisen}
use Rattle.image_session.specs.Session.{IsLoaded, Loaded, Loads}
use Rattle.image_session.specs.declared.fault.LoadFault.{LoadFault}
use Rattle.image_session.specs.declared.fault.LoadFault.TheVariants as loading
use Rattle.file_stamps.specs.Stamped.{AreSame, AreTrue}
use Rattle.tree_face.specs.declared.disk.Slot.{Slot}
use Rattle.tree_face.specs.declared.disk.Tag.{Tag}
use Rattle.tree_face.specs.Disk.{Content, DiskContent, DiskState, Slots}
use Rattle.tree_face.specs.Known.{IfKnown}
use Rattle.tree_face.specs.Store.{Contents}
use Rattle.command_status.specs.declared.status.Status.{Status}
use Rattle.command_status.specs.declared.status.Status.TheVariants.{Done, NoMemory}
use Rattle.command_status.specs.Status.{of_load}
use Rattle.update_runs.specs.Update.{States}
use Rattle.script_runs.specs.declared.fault.ScriptFault.{ScriptFault}
use Rattle.script_runs.specs.Course.{AreReliable, course}
use Rattle.script_runs.specs.Crash.{IsOfOld, IsOfUpdate, LeavesWholeCaches, MayBeLeft}
use Rattle.script_runs.specs.Faults.{status_of}
use Rattle.script_runs.specs.Left.{RebuildsScript}
use Rattle.script_runs.specs.Run.{RunsLines}

-- the script of the command `update`
abbrev pub one_update : List (List ℕ)
one_update = codes "update" ∷ []

-- ---- the run

-- if the session can't be loaded, nothing is changed
abbrev pub AfterLoad : Tag → List (List ℕ) → Result Loaded LoadFault → Status → States → States → Type 0
AfterLoad tag lines (Ok s) status old new = (to : Result Loaded ScriptFault) × ((status ≡ status_of to) × RunsLines tag 1 lines s to old new)
AfterLoad tag lines (Err fault) status old new = (status ≡ of_load fault) × (new ≡ old)

-- the loading of the session, and then the script
pub record RunsStored (tag : Tag) (lines : List (List ℕ)) (status : Status) (old new : States) : Type 0 where
  pub loaded : Result Loaded LoadFault
  -- the disk when the session is loaded
  pub between : DiskState
  pub loads : Loads loaded old.disk between
  pub after : AfterLoad tag lines loaded status (record old { disk = between }) new

-- ---- what is left

-- why a session can't be loaded, although there is one
abbrev pub StopsLoading : LoadFault → DiskState → DiskState → Type 0
StopsLoading (loading.DiskFailed slot) old new = HasRisen old.faults new.faults
StopsLoading loading.NoMemory old new = ⊤
StopsLoading loading.NoManifest old new = ⊥
StopsLoading (loading.BadManifest fault) old new = ⊥

-- nothing is written, because the session can't be loaded
pub record IsUnloaded (status : Status) (content : DiskContent) (old new : States) : Type 0 where
  pub fault : LoadFault
  pub status_is : status ≡ of_load fault
  pub why : StopsLoading fault old.disk new.disk
  pub slots : IfKnown new.disk.contents (λ left. left.now ≡ content.now)
  pub sink : new.sink ≡ old.sink

-- the script is run, and ends with this status
abbrev pub IsRebuilt : Contents → List (List ℕ) → Loaded → Status → DiskContent → States → States → Type 0
IsRebuilt held lines s status content old new = (to : Result Loaded ScriptFault) × ((status ≡ status_of to) × RebuildsScript held 1 lines s to content old new)

-- what a script leaves of the session in the files
abbrev pub RebuildsSlots : List (List ℕ) → Status → States → States → Type 0
RebuildsSlots lines status old new =
    IfBothKnown old.store.held old.disk.contents (λ held content. (s : Loaded) → IsImageIn content.now s
    → IsUnloaded status content old new ⊎ IsRebuilt held lines s status content old new)

-- ---- completeness

-- no count of faults rose
pub record NoneRose (old new : States) : Type 0 where
  pub store : HasRisen old.store.faults new.store.faults → ⊥
  pub disk : HasRisen old.disk.faults new.disk.faults → ⊥
  pub sink : HasRisen old.sink.faults new.sink.faults → ⊥

-- if all lines of a script of the session in the files can be done, they are done, unless a device fails or memory runs out
abbrev pub CompletesScript : List (List ℕ) → Status → States → States → Type 0
CompletesScript lines status old new =
    IfBothKnown old.store.held old.disk.contents (λ held content. (s : Loaded) → IsImageIn content.now s
    → NoneRose old new → (session : Loaded) → (course held 1 lines s).end ≡ Ok session → (status ≡ Done) ⊎ (status ≡ NoMemory))

-- ---- a crash

-- the crash of a script of the session that was loaded; if none was loaded, a crash leaves what a crash at the start might have left
abbrev pub LeavesBy : Tag → Option Contents → List (List ℕ) → Result Loaded LoadFault → Status → DiskState → DiskState → Type 0
LeavesBy tag known lines (Ok s) status old new = (to : Result Loaded ScriptFault) × ((status ≡ status_of to) × LeavesWholeCaches tag known 1 lines s to old new)
LeavesBy tag known lines (Err fault) status old new = (slot : Slot) (b : Content) → new.since old.time slot b ≡ true → old.may slot b ≡ true

pub record LeavesWhole (tag : Tag) (known : Option Contents) (lines : List (List ℕ)) (status : Status) (old new : DiskState) : Type 0 where
  pub loaded : Result Loaded LoadFault
  pub in_slots : IfOk loaded (IsLoaded old.contents)
  pub whole : LeavesBy tag known lines loaded status old new

-- Either the manifest is the one before, and an update writes what an update of the old session writes. Or it is the manifest of an update
-- of the
-- expected run, and a further update writes that update's caches.
abbrev pub WritesAgain : Contents → Loaded → List Loaded → Slots → Slots → Loaded → Type 0
WritesAgain held s updates slots image left =
    ((image.manifest ≡ slots.manifest) × IsOfOld held s left)
    ⊎ ((u : Loaded) × (Contains updates u × ((image.manifest ≡ new_manifest Image held u) × IsOfUpdate held u left)))

-- The files that a crash left hold a session whose stamps are true and whose files of equal identity have equal content. The next update
-- repairs
-- them.
pub record IsRepairable (held : Contents) (s : Loaded) (updates : List Loaded) (slots image : Slots) : Type 0 where
  pub left : Loaded
  pub in_slots : IsImageIn image left
  pub may : MayBeLeft held s updates left
  pub are_true : AreTrue held left.tree left.stamps
  pub same : AreSame held left.tree left.tree
  pub writes : WritesAgain held s updates slots image left

-- This holds for all files that a crash since the start may leave. It assumes that a crash at the start leaves only what the files hold.
-- It also
-- assumes that the identities are trustworthy in the session and in those whose updates are asked for.
abbrev pub RepairsScript : Contents → List (List ℕ) → DiskContent → DiskState → DiskState → Type 0
RepairsScript held lines content old new =
    LeavesOnly old content.now → (s : Loaded) → IsImageIn content.now s → AreReliable held s.stamps (s ∷ (course held 1 lines s).asked)
    → (image : Slots) → MightBeLeft old.time new image → IsRepairable held s (course held 1 lines s).updates content.now image

-- ---- everything that is known of a script

pub record StoredFacts (tag : Tag) (lines : List (List ℕ)) (status : Status) (old new : States) : Type 0 where
  pub rebuilds : RebuildsSlots lines status old new
  pub completes : CompletesScript lines status old new
  pub whole : LeavesWhole tag old.store.held lines status old.disk new.disk
  pub repairs : IfBothKnown old.store.held old.disk.contents (λ held content. RepairsScript held lines content old.disk new.disk)
