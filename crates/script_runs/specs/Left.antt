-- What a script of a session leaves. Some of its updates were made, from the first on, and the files and the output are their results.
-- Under the
-- assumption on identities, a full rebuild without an auxiliary cache gives the same.
use Rattle.std.specs.Prelude.{◌≡◌, ◌⊎◌, ◌+◌, ◌++◌, ℕ, false, List, [], ◌∷◌, flat_map, length, Option, Some, None, Result, Ok, Err, ⊤}
use Rattle.std.specs.List.{All}
use Rattle.hwcap_dirs.specs.declared.kinds.Scope.TheVariants.{Image}
use Rattle.cache_lookup.specs.Scan.{AreDescending}
use Rattle.cache_reader.specs.Cache.{defect, read}
use Rattle.ldconfig_core.specs.Lookup.{FindsAsSearched}
use Rattle.ldconfig_core.specs.Outcome.{Writes, update_outcome}
use Rattle.ldconfig_core.specs.Repair.{IsImageIn, OldOrNew, slots_after}
use Rattle.ldconfig_core.specs.Settled.{AreSettled, IfReads, planned_image, unstamped_image}
use Rattle.ldconfig_core.specs.Texts.{AreAlike, AreTexts, AreTextsOf, UpdateTexts, writes_of}
use Rattle.ldconfig_core.specs.declared.fault.UpdateFault.{UpdateFault}
use Rattle.ldconfig_core.specs.declared.fault.UpdateFault.TheVariants as updating
use Rattle.ldso_conf.specs.Reading.{conf_keys}
use Rattle.lib_types.specs.Counts.{HasRisen}
use Rattle.image_session.specs.Aux.{stamps_of_slot}
use Rattle.image_session.specs.Manifest.{HasTree, manifest_of}
use Rattle.image_session.specs.Session.{Loaded}
use Rattle.library_search.specs.Begun.{opened_in, update_keys}
use Rattle.library_search.specs.Laws.{IsInfoRight}
use Rattle.library_search.specs.Ldconfig.{conf_of, stamps_in}
use Rattle.file_stamps.specs.Stamped.{AreSame, AreTrue}
use Rattle.tree_face.specs.Disk.{DiskContent, Slots}
use Rattle.tree_face.specs.Follows.{IsFollowedBy, IsFollowedByPart}
use Rattle.tree_face.specs.Known.{IfKnown, Relates}
use Rattle.tree_face.specs.Store.{Contents}
use Rattle.update_runs.specs.Update.{States}
use Rattle.update_runs.specs.declared.fault.UpdatingFault.TheVariants.{OutputFault, Update}
use Rattle.script_runs.specs.declared.fault.ScriptFault.{ScriptFault}
use Rattle.script_runs.specs.declared.fault.ScriptFault.TheVariants.{Line, NoMemory, Updating}
use Rattle.script_runs.specs.Course.{AreReliable, Course, IsReliable, course}

-- ---- one update

-- an update of the session without its auxiliary cache is made, and writes the same
pub record IsRebuiltOf (held : Contents) (u : Loaded) (texts : UpdateTexts) : Type 0 where
  pub made : update_outcome Image held (unstamped_image u) ≡ Writes
  pub same : (again : UpdateTexts) → AreTextsOf Image held (unstamped_image u) again → AreAlike texts again

-- These are the texts of the session's update. Reading the manifest gives the session with the planned links, and reading the auxiliary
-- cache gives
-- its stamps. With the cache the loader finds what a search of the directories finds. Under the assumption on identities, an update
-- without the
-- auxiliary cache writes the same, and a second update changes nothing.
pub record IsUpdateOf (held : Contents) (u : Loaded) (texts : UpdateTexts) : Type 0 where
  pub made : update_outcome Image held u ≡ Writes
  pub are : AreTextsOf Image held u texts
  pub all : AreTexts texts
  pub finds : FindsAsSearched Image held u.tree u.stamps texts.cache
  pub manifest_read : IfReads texts.manifest (planned_image Image held u)
  pub aux_read : stamps_of_slot (Some texts.aux) ≡ stamps_in Image held u.tree u.stamps
  pub counted : length (update_keys Image held u.tree u.stamps) ≡ length (conf_keys (conf_of Image) held u.tree) + opened_in Image held u.tree u.stamps
  pub right : IsReliable held u → IsInfoRight Image held u.tree u.stamps
  pub rebuilt : IsReliable held u → IsRebuiltOf held u texts
  pub settled : IsReliable held u → AreSettled Image held u (planned_image Image held u)

-- the updates of these sessions are made one after the other; they turn the first files into the second ones, and these are their reports
abbrev pub AreMade : Contents → List Loaded → Slots → Slots → List (List ℕ) → Type 0
AreMade held [] before after reports = (after ≡ before) × (reports ≡ [])
AreMade held (u ∷ us) before after reports =
    (texts : UpdateTexts) × (IsUpdateOf held u texts × ((rest : List (List ℕ)) × ((reports ≡ texts.report ∷ rest) × AreMade held us (slots_after (writes_of texts) before) after rest)))

-- ---- how the script ends

-- if a writing call of the next update failed, each file has its old content or what that update writes to it
abbrev pub AreSlots : Contents → Result Loaded ScriptFault → List Loaded → Slots → Slots → Type 0
AreSlots held (Err (Updating (Update (updating.DiskFault fault)))) (u ∷ us) made now = (texts : UpdateTexts) × (IsUpdateOf held u texts × OldOrNew (writes_of texts) made now)
AreSlots held to rest made now = now ≡ made

-- one text follows in full, and then a part of another one
abbrev pub FollowsAndPart : List ℕ → List ℕ → List ℕ → List ℕ → Type 0
FollowsAndPart front last a c = (b : List ℕ) × (IsFollowedBy front a b × IsFollowedByPart last b c)

-- the texts one after the other
abbrev pub joined : List (List ℕ) → List ℕ
joined texts = flat_map (λ text. text) texts

-- the reports are written; if the output failed, all but the last one and a part of the last one
abbrev pub AreWritten : Result Loaded ScriptFault → List (List ℕ) → Option (List ℕ) → Option (List ℕ) → Type 0
AreWritten (Err (Updating OutputFault)) reports before after =
    (front : List (List ℕ)) × ((last : List ℕ) × ((reports ≡ front ++ last ∷ []) × Relates (FollowsAndPart (joined front) last) before after))
AreWritten to reports before after = Relates (IsFollowedBy (joined reports)) before after

-- all updates of the expected run were made, and the script ends in the same way
abbrev pub IsCourseEnd : Course → List Loaded → Result Loaded ScriptFault → Type 0
IsCourseEnd course rest to = (rest ≡ []) × (course.end ≡ to)

-- the reason why an update isn't made
abbrev pub EndsByUpdate : UpdateFault → Course → List Loaded → States → States → Type 0
EndsByUpdate updating.StoreFault course rest old new = HasRisen old.store.faults new.store.faults ⊎ IsCourseEnd course rest (Err (Updating (Update updating.StoreFault)))
EndsByUpdate (updating.DiskFault fault) course rest old new = HasRisen old.disk.faults new.disk.faults
EndsByUpdate updating.NoMemory course rest old new = ⊤
EndsByUpdate (updating.TooLarge nodes bytes) course rest old new = IsCourseEnd course rest (Err (Updating (Update (updating.TooLarge nodes bytes))))
EndsByUpdate (updating.TooMany count) course rest old new = IsCourseEnd course rest (Err (Updating (Update (updating.TooMany count))))

-- the reason why no more updates were made
abbrev pub EndsBy : Result Loaded ScriptFault → Course → List Loaded → States → States → Type 0
EndsBy (Ok session) course rest old new = IsCourseEnd course rest (Ok session)
EndsBy (Err (Line number kind)) course rest old new = IsCourseEnd course rest (Err (Line number kind))
EndsBy (Err (Updating (Update fault))) course rest old new = EndsByUpdate fault course rest old new
EndsBy (Err (Updating OutputFault)) course rest old new = HasRisen old.sink.faults new.sink.faults
EndsBy (Err NoMemory) course rest old new = ⊤

-- the files that updates of these sessions open, one after the other
abbrev pub keys_of : Contents → List Loaded → List (List ℕ)
keys_of held sessions = flat_map (λ (u : Loaded). update_keys Image held u.tree u.stamps) sessions

pub record LeavesRebuilt (held : Contents) (course : Course) (to : Result Loaded ScriptFault) (content : DiskContent) (old new : States) : Type 0 where
  -- the updates that were made, and the others
  pub made : List Loaded
  pub rest : List Loaded
  pub parts : course.updates ≡ made ++ rest
  pub slots : Slots
  pub reports : List (List ℕ)
  pub are_made : AreMade held made content.now slots reports
  pub now : IfKnown new.disk.contents (λ left. AreSlots held to rest slots left.now)
  pub written : AreWritten to reports old.sink.written new.sink.written
  pub ends : EndsBy to course rest old new
  -- after the last line, exactly the files of these updates were opened
  pub keys : (session : Loaded) → to ≡ Ok session → Relates (IsFollowedBy (keys_of held made)) old.store.keys new.store.keys

-- ---- the last update that was made

-- a property of the last of these sessions, if there is one
abbrev pub OfLast : List Loaded → (Loaded → Type 0) → Type 0
OfLast sessions P = (front : List Loaded) (last : Loaded) → sessions ≡ front ++ last ∷ [] → P last

-- The files hold the update of the session: another update is made, writes no manifest, and writes the caches that are there already. With
-- the cache,
-- the loader finds what a search of the directories finds. The stamps of the session are true, and its files of equal identity have equal
-- content.
pub record HoldUpdateOf (held : Contents) (s : Loaded) (slots : Slots) : Type 0 where
  pub are_true : AreTrue held s.tree s.stamps
  pub same : AreSame held s.tree s.tree
  pub made : update_outcome Image held s ≡ Writes
  pub texts : UpdateTexts
  pub are : AreTextsOf Image held s texts
  pub manifest : texts.manifest ≡ None
  pub cache : slots.cache ≡ Some texts.cache
  pub aux : slots.aux ≡ Some texts.aux
  pub accepted : defect texts.cache ≡ None
  pub descending : AreDescending (read texts.cache)
  pub finds : FindsAsSearched Image held s.tree s.stamps texts.cache

-- if the session isn't edited, the manifest file has its tree
abbrev pub HasItsTree : Loaded → Slots → Type 0
HasItsTree s slots = s.edited ≡ false → manifest_of slots.manifest ≡ HasTree s.tree

-- ---- the whole script

-- What a script of this session leaves. If the first session was loaded from the files, loading them at the end gives the last updated
-- session.
-- If the sessions whose updates are asked for meet the assumption on identities, every updated session meets it. Then the files hold a
-- further update of
-- the last one.
pub record RebuildsScript (held : Contents) (number : ℕ) (lines : List (List ℕ)) (s : Loaded) (to : Result Loaded ScriptFault) (content : DiskContent) (old new : States) : Type 0 where
  pub left : LeavesRebuilt held (course held number lines s) to content old new
  pub stored : HasItsTree s content.now → OfLast left.made (λ u. IsImageIn left.slots (planned_image Image held u))
  pub reliable : AreReliable held s.stamps (course held number lines s).asked → All (IsReliable held) left.made
  pub settled : AreReliable held s.stamps (course held number lines s).asked → OfLast left.made (λ u. HoldUpdateOf held (planned_image Image held u) left.slots)
