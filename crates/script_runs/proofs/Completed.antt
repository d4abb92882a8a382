-- If all lines of a script can be done, the script is done, unless a device fails or memory runs out.
use Rattle.std.proofs.Common.{◌≡◌, ◌⊎◌, ℕ, List, Option, Some, None, Result, Ok, Err, refl, sym, ◌∙◌, inl, inr}
use Rattle.tree_face.specs.Devices.{IfBothKnown}
use Rattle.ldconfig_core.specs.Repair.{IsImageIn}
use Rattle.ldconfig_core.specs.declared.fault.UpdateFault.{UpdateFault}
use Rattle.ldconfig_core.specs.declared.fault.UpdateFault.TheVariants as updating
use Rattle.image_session.specs.Session.{Loaded}
use Rattle.image_session.specs.declared.fault.LoadFault.{LoadFault}
use Rattle.image_session.specs.declared.fault.LoadFault.TheVariants as loading
use Rattle.tree_face.specs.Disk.{DiskContent}
use Rattle.tree_face.specs.Store.{Contents}
use Rattle.command_status.specs.Status.{of_load}
use Rattle.command_status.specs.declared.status.Status.{Status}
use Rattle.command_status.specs.declared.status.Status.TheVariants.{Done, NoMemory}
use Rattle.update_runs.specs.Update.{States}
use Rattle.update_runs.specs.declared.fault.UpdatingFault.TheVariants.{OutputFault, Update}
use Rattle.script_runs.specs.declared.fault.ScriptFault.{ScriptFault}
use Rattle.script_runs.specs.declared.fault.ScriptFault.TheVariants as script
use Rattle.script_runs.specs.Course.{Course, course}
use Rattle.script_runs.specs.Faults.{status_of}
use Rattle.script_runs.specs.Left.{EndsBy, EndsByUpdate, IsCourseEnd}
use Rattle.script_runs.specs.Stored.{CompletesScript, IsRebuilt, IsUnloaded, NoneRose, RebuildsSlots, StopsLoading}

abbrev IsComplete : Status → Type 0
IsComplete status = (status ≡ Done) ⊎ (status ≡ NoMemory)

module _ (old new : States) (none : NoneRose old new) where
  -- the session can't be loaded
  unloaded : (fault : LoadFault) → StopsLoading fault old.disk new.disk → IsComplete (of_load fault)
  unloaded (loading.DiskFailed slot) risen = absurd (none.disk risen)
  unloaded loading.NoMemory why = inr refl
  unloaded loading.NoManifest why = absurd why
  unloaded (loading.BadManifest fault) why = absurd why

  module _ (course : Course) (rest : List Loaded) (session : Loaded) (done : course.end ≡ Ok session) where
    -- the expected run doesn't end with a fault
    not_end : (fault : ScriptFault) → IsCourseEnd course rest (Err fault) → ⊥
    not_end fault (nothing, end) = let z : Ok session ≡ Err fault = sym done ∙ end in absurd (cc)

    not_made : (fault : UpdateFault) → EndsByUpdate fault course rest old new → IsComplete (status_of (Err (script.Updating (Update fault))))
    not_made updating.StoreFault (inl risen) = absurd (none.store risen)
    not_made updating.StoreFault (inr end) = absurd (not_end (script.Updating (Update updating.StoreFault)) end)
    not_made (updating.DiskFault fault) risen = absurd (none.disk risen)
    not_made updating.NoMemory end = inr refl
    not_made (updating.TooLarge nodes bytes) end = absurd (not_end (script.Updating (Update (updating.TooLarge nodes bytes))) end)
    not_made (updating.TooMany count) end = absurd (not_end (script.Updating (Update (updating.TooMany count))) end)

    by_end : (to : Result Loaded ScriptFault) → EndsBy to course rest old new → IsComplete (status_of to)
    by_end (Ok session) end = inl refl
    by_end (Err (script.Line number kind)) end = absurd (not_end (script.Line number kind) end)
    by_end (Err (script.Updating (Update fault))) end = not_made fault end
    by_end (Err (script.Updating OutputFault)) risen = absurd (none.sink risen)
    by_end (Err script.NoMemory) end = inr refl

complete_by : (status other : Status) → status ≡ other → IsComplete other → IsComplete status
complete_by status other is (inl done) = inl (is ∙ done)
complete_by status other is (inr out) = inr (is ∙ out)

module _ (held : Contents) (lines : List (List ℕ)) (s : Loaded) (status : Status) (content : DiskContent) (old new : States) (none : NoneRose old new)
    (session : Loaded) (done : (course held 1 lines s).end ≡ Ok session) where
  pub by_left : IsUnloaded status content old new ⊎ IsRebuilt held lines s status content old new → IsComplete status
  by_left (inl left) = complete_by status (of_load left.fault) left.status_is (unloaded old new none left.fault left.why)
  by_left (inr (to, (is, rebuilt))) =
      complete_by status (status_of to) is (by_end old new none (course held 1 lines s) rebuilt.left.rest session done to rebuilt.left.ends)

pub completes : (lines : List (List ℕ)) (status : Status) (old new : States) → RebuildsSlots lines status old new → CompletesScript lines status old new
completes lines status old new rebuilds = by old.store.held old.disk.contents rebuilds
  where
    by : (h : Option Contents) (c : Option DiskContent)
        → IfBothKnown h c (λ held content. (s : Loaded) → IsImageIn content.now s
        → IsUnloaded status content old new ⊎ IsRebuilt held lines s status content old new)
        → IfBothKnown h c (λ held content. (s : Loaded) → IsImageIn content.now s
        → NoneRose old new → (session : Loaded) → (course held 1 lines s).end ≡ Ok session → IsComplete status)
    by None c left = tt
    by (Some held) None left = tt
    by (Some held) (Some content) left = λ s image none session done. by_left held lines s status content old new none session done (left s image)
