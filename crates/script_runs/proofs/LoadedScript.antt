-- A script of the session in the files, from its loading on: what it leaves, and what a crash of it leaves.
use Rattle.std.proofs.Common.{◌≡◌, ◌⊎◌, ◌≤◌, ℕ, Bool, true, List, Option, Some, None, Result, Ok, Err, refl, ap, sym, subst, ◌∙◌, inl, inr, arith}
use Rattle.tree_face.specs.Devices.{IfBothKnown}
use Rattle.ldconfig_core.proofs.WrittenSlots.{one_image}
use Rattle.ldconfig_core.specs.Repair.{IsImageIn}
use Rattle.image_session.specs.Manifest.{Empty, Faulty, HasTree, manifest_of}
use Rattle.image_session.specs.Session.{IsLoad, IsLoaded, Loaded, Loads}
use Rattle.image_session.specs.declared.fault.LoadFault.{LoadFault}
use Rattle.image_session.specs.declared.fault.LoadFault.TheVariants as loading
use Rattle.tree_face.specs.Crash.{HasMoments}
use Rattle.tree_face.specs.Disk.{Content, DiskContent, DiskState, KeepsAll, slot_of}
use Rattle.tree_face.specs.declared.disk.DoneCall.{DoneCall}
use Rattle.tree_face.specs.Known.{IfKnown, Relates}
use Rattle.tree_face.specs.Store.{Contents}
use Rattle.tree_face.specs.declared.disk.Slot.{Slot}
use Rattle.tree_face.specs.declared.disk.Tag.{Tag}
use Rattle.command_status.specs.Status.{of_load}
use Rattle.command_status.specs.declared.status.Status.{Status}
use Rattle.update_runs.specs.Update.{States}
use Rattle.script_runs.specs.declared.fault.ScriptFault.{ScriptFault}
use Rattle.script_runs.proofs.Completed.{completes}
use Rattle.script_runs.proofs.Crashed.{whole_caches}
use Rattle.script_runs.proofs.HeldUpdate.{rebuilds_by}
use Rattle.script_runs.proofs.InSlots.{image_is}
use Rattle.script_runs.proofs.Rebuilt.{are_rebuilt, ends_since}
use Rattle.script_runs.proofs.RepairedScript.{repairs_script}
use Rattle.script_runs.specs.Course.{Course, course}
use Rattle.script_runs.specs.Crash.{LeavesWholeCaches, MakesCalls}
use Rattle.script_runs.specs.Left.{LeavesRebuilt}
use Rattle.script_runs.specs.Run.{RunsLines}
use Rattle.script_runs.specs.Stored.{AfterLoad, IsRebuilt, IsUnloaded, LeavesBy, LeavesWhole, RebuildsSlots, RunsStored, StopsLoading, StoredFacts}

-- ---- the session can't be loaded

module _ (content : DiskContent) (old : States) (between : DiskState) (known : old.disk.contents ≡ Some content) where
  abbrev read : States
  read = record old { disk = between }

  pub slots_stay : KeepsAll old.disk between → IfKnown between.contents (λ left. left.now ≡ content.now)
  slots_stay keeps = subst (λ (c : Option DiskContent). IfKnown c (λ left. left.now ≡ content.now)) (sym (keeps.contents ∙ known)) refl

  answer : (loaded : Result Loaded LoadFault) → Loads loaded old.disk between → IsLoad (manifest_of content.now.manifest) loaded
  answer loaded loads = subst (λ (c : Option DiskContent). IfKnown c (λ content. IsLoad (manifest_of content.now.manifest) loaded)) known loads.answers

  -- the disk failed or memory ran out, because the files do hold a session
  unloaded : (s : Loaded) → IsImageIn content.now s → (fault : LoadFault) → Loads (Err fault) old.disk between → IsUnloaded (of_load fault) content old read
  unloaded s image fault loads = record { fault = fault; status_is = refl; why = why fault loads; slots = slots_stay loads.reads.keeps; sink = refl }
    where
      why : (fault : LoadFault) → Loads (Err fault) old.disk between → StopsLoading fault old.disk between
      why (loading.DiskFailed slot) loads = elim loads.reads.cause [ inl risen ↦ risen | inr none ↦ absurd none ]
      why loading.NoMemory loads = tt
      why loading.NoManifest loads = let z : Empty ≡ HasTree s.tree = sym (answer (Err loading.NoManifest) loads) ∙ image.tree in absurd (cc)
      why (loading.BadManifest fault) loads = let z : Faulty fault ≡ HasTree s.tree = sym (answer (Err (loading.BadManifest fault)) loads) ∙ image.tree in absurd (cc)

-- ---- the session is loaded

module _ (tag : Tag) (lines : List (List ℕ)) (status : Status) (held : Contents) (content : DiskContent) (old new : States) (between : DiskState)
    (is : old.store.held ≡ Some held) (known : old.disk.contents ≡ Some content) where
  -- what is left after the loading is also left after the start
  pub left_since : (whole : Course) (to : Result Loaded ScriptFault) → old.disk.faults ≤ between.faults → LeavesRebuilt held whole to content (record old { disk = between }) new
      → LeavesRebuilt held whole to content old new
  left_since whole to faults left = record {
    made = left.made;
    rest = left.rest;
    parts = left.parts;
    slots = left.slots;
    reports = left.reports;
    are_made = left.are_made;
    now = left.now;
    written = left.written;
    ends = ends_since whole whole refl left.rest old (record old { disk = between }) new (record { store = omega arith; disk = faults; sink = omega arith }) to left.ends;
    keys = left.keys;
  }

  script_left : (s : Loaded) → IsImageIn content.now s → (loaded : Result Loaded LoadFault) → Loads loaded old.disk between
      → AfterLoad tag lines loaded status (record old { disk = between }) new
      → IsUnloaded status content old new ⊎ IsRebuilt held lines s status content old new
  script_left s image (Err fault) loads (e, same) =
      inl (subst (λ (status : Status). IsUnloaded status content old new) (sym e)
      (subst (λ (new : States). IsUnloaded (of_load fault) content old new) (sym same) (unloaded content old between known s image fault loads)))
  script_left s image (Ok found) loads (to, (is_status, runs)) =
      let there : IsImageIn content.now found = image_is content found (subst (λ (c : Option DiskContent). IsLoaded c found) known loads.loaded) in
      let one : found ≡ s = one_image content.now s found image there in
      let here : RunsLines tag 1 lines s to (record old { disk = between }) new =
      subst (λ (s : Loaded). RunsLines tag 1 lines s to (record old { disk = between }) new) one runs in
      let left = left_since (course held 1 lines s) to loads.reads.faults
      (are_rebuilt tag held lines 1 s to content (record old { disk = between }) new is (loads.reads.keeps.contents ∙ known) here) in
      inr (to, (is_status, rebuilds_by held lines 1 s to content old new left))

pub loads_rebuilt : (tag : Tag) (lines : List (List ℕ)) (status : Status) (old new : States) → RunsStored tag lines status old new → RebuildsSlots lines status old new
loads_rebuilt tag lines status old new run = by old.store.held refl old.disk.contents refl
  where
    by : (h : Option Contents) → old.store.held ≡ h → (c : Option DiskContent) → old.disk.contents ≡ c → IfBothKnown h c (λ held content.
        (s : Loaded) → IsImageIn content.now s
        → IsUnloaded status content old new ⊎ IsRebuilt held lines s status content old new)
    by None is c known = tt
    by (Some held) is None known = tt
    by (Some held) is (Some content) known = λ s image. script_left tag lines status held content old new run.between is known s image run.loaded run.loads run.after

-- ---- a crash

module _ (tag : Tag) (old read : DiskState) (keeps : KeepsAll old read) where
  -- if a disk had moments before its files were read, it has them afterwards
  pub moments_kept : HasMoments old → HasMoments read
  moments_kept laws = record {
    held = subst (λ (c : Option DiskContent). IfKnown c (λ c. (slot : Slot) → read.may slot (slot_of c.now slot) ≡ true)) (sym keeps.contents)
        (subst (λ (may : Slot → Content → Bool). IfKnown old.contents (λ c. (slot : Slot) → may slot (slot_of c.now slot) ≡ true)) (sym keeps.may) laws.held);
    unknown = λ none slot b. ap (λ may. may slot b) keeps.may ∙ laws.unknown (sym keeps.contents ∙ none) slot b;
    now = λ slot b. ap (λ t. read.since t slot b) keeps.time ∙ ap (λ since. since old.time slot b) keeps.since ∙ laws.now slot b ∙ ap (λ may. may slot b) (sym keeps.may);
    earlier = λ t u slot b before within h. ap (λ since. since t slot b) keeps.since
        ∙ laws.earlier t u slot b before (omega (arith, within, keeps.time)) (ap (λ since. since u slot b) (sym keeps.since) ∙ h);
  }

  pub whole_since : (known : Option Contents) (number : ℕ) (lines : List (List ℕ)) (s : Loaded) (to : Result Loaded ScriptFault) (new : DiskState) → LeavesWholeCaches tag known number lines s to read new
      → LeavesWholeCaches tag known number lines s to old new
  whole_since known number lines s to new left = record {
    updates = left.updates;
    are = left.are;
    of_course = left.of_course;
    whole = λ slot b h. elim (left.whole slot b (ap (λ t. new.since t slot b) keeps.time ∙ h)) [
      | inl was ↦ inl (ap (λ may. may slot b) (sym keeps.may) ∙ was)
      | inr is ↦ inr is
    ];
    settled = left.settled;
    calls = subst (λ (calls : Option (List DoneCall)). Relates (MakesCalls tag left.updates to) calls new.calls) keeps.calls left.calls;
  }

  pub kept : HasMoments old → (slot : Slot) (b : Content) → read.since old.time slot b ≡ true → old.may slot b ≡ true
  kept laws slot b h = sym (laws.now slot b) ∙ ap (λ since. since old.time slot b) (sym keeps.since) ∙ h

pub loads_whole : (tag : Tag) (lines : List (List ℕ)) (status : Status) (old new : States) → HasMoments old.disk → RunsStored tag lines status old new
    → LeavesWhole tag old.store.held lines status old.disk new.disk
loads_whole tag lines status old new laws run = record { loaded = run.loaded; in_slots = run.loads.loaded; whole = by run.loaded run.loads run.after }
  where
    by : (loaded : Result Loaded LoadFault) → Loads loaded old.disk run.between → AfterLoad tag lines loaded status (record old { disk = run.between }) new
        → LeavesBy tag old.store.held lines loaded status old.disk new.disk
    by (Ok s) loads (to, (is_status, runs)) =
        let keeps = loads.reads.keeps in (
          to,
          (
            is_status,
            whole_since tag old.disk run.between keeps old.store.held 1 lines s to new.disk
                (whole_caches tag lines 1 s to (record old { disk = run.between }) new (moments_kept tag old.disk run.between keeps laws) runs),
          ),
        )
    by (Err fault) loads (e, same) = subst (λ (new : States). (slot : Slot) (b : Content) → new.disk.since old.disk.time slot b ≡ true → old.disk.may slot b ≡ true) (sym same)
        (kept tag old.disk run.between loads.reads.keeps laws)

-- ---- all of it

pub facts : (tag : Tag) (lines : List (List ℕ)) (status : Status) (old new : States) → HasMoments old.disk → RunsStored tag lines status old new → StoredFacts tag lines status old new
facts tag lines status old new laws run =
    let whole = loads_whole tag lines status old new laws run in
    let rebuilds = loads_rebuilt tag lines status old new run in
    record {
      rebuilds = rebuilds;
      completes = completes lines status old new rebuilds;
      whole = whole;
      repairs = repairs_script tag lines status old.store.held old.disk.contents old.disk new.disk refl whole;
    }
