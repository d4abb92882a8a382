-- What the update of an adopted image leaves, and what a crash of it leaves.
use Rattle.std.proofs.Common.{◌≡◌, ◌⊎◌, ℕ, List, Option, Some, None, Result, Ok, Err, IfOk, refl, ap, sym, subst, ◌∙◌, inl, inr, true}
use Rattle.hwcap_dirs.specs.declared.kinds.Scope.TheVariants.{Image}
use Rattle.command_status.specs.Status.{of_load}
use Rattle.command_status.specs.declared.status.Status.{Status}
use Rattle.command_status.specs.declared.status.Status.TheVariants as statuses
use Rattle.image_session.specs.Adopted.{Adopts, IsAdopted, adopted_with}
use Rattle.image_session.specs.Session.{Loaded, image_with}
use Rattle.image_session.specs.declared.fault.LoadFault.{LoadFault}
use Rattle.image_session.specs.declared.fault.LoadFault.TheVariants as loading
use Rattle.image_tree.specs.Tree.{Nodes}
use Rattle.ldconfig_core.proofs.OneText.{one_update}
use Rattle.ldconfig_core.specs.Outcome.{new_manifest}
use Rattle.ldconfig_core.specs.Texts.{AreTextsOf, UpdateTexts}
use Rattle.script_runs.proofs.Completed.{by_left}
use Rattle.script_runs.proofs.Crashed.{whole_caches}
use Rattle.script_runs.proofs.HeldUpdate.{rebuilds_by}
use Rattle.script_runs.proofs.LoadedScript.{kept, left_since, moments_kept, slots_stay, whole_since}
use Rattle.script_runs.proofs.Rebuilt.{are_rebuilt}
use Rattle.script_runs.specs.Course.{course}
use Rattle.script_runs.specs.Run.{RunsLines}
use Rattle.script_runs.specs.Stored as stored
use Rattle.script_runs.specs.Stored.{AfterLoad, IsRebuilt, IsUnloaded, LeavesBy, StopsLoading}
use Rattle.tree_face.specs.Crash.{HasMoments}
use Rattle.tree_face.specs.Devices.{IfBothKnown}
use Rattle.tree_face.specs.Disk.{Content, DiskContent, DiskState}
use Rattle.tree_face.specs.Store.{Contents}
use Rattle.tree_face.specs.declared.disk.Slot.{Slot}
use Rattle.update_runs.specs.Update.{States}
use Rattle.layer_runs.proofs.Repaired.{repairs_adopted}
use Rattle.layer_runs.specs.Command.{AdoptedFacts}
use Rattle.layer_runs.specs.Crash.{LeavesWholeImage}
use Rattle.layer_runs.specs.Left.{CompletesAdopted, RebuildsAdopted, WritesAsUpdate}
use Rattle.layer_runs.specs.Run.{AfterImage, RunsAdopted, RunsLayers, tag}
use Rattle.layer_runs.specs.declared.fault.ImageFault.{ImageFault}

-- the image that is adopted is that of the tree and the Aux slot
pub image_is : (tree : Nodes) (content : DiskContent) (s : Loaded) → IsAdopted (Some content) tree s → s ≡ adopted_with tree content.now.aux
image_is tree content s is = is.is ∙ ap (adopted_with tree) (sym is.in_slot)

-- ---- what is left

module _ (tree : Nodes) (status : Status) (held : Contents) (content : DiskContent) (old new : States) (between : DiskState)
    (is : old.store.held ≡ Some held) (known : old.disk.contents ≡ Some content) where
  abbrev image : Loaded
  image = adopted_with tree content.now.aux

  -- the disk failed or memory ran out
  unadopted : (fault : LoadFault) → Adopts tree (Err fault) old.disk between → IsUnloaded (of_load fault) content old (record old { disk = between })
  unadopted fault adopts = record { fault = fault; status_is = refl; why = why fault adopts; slots = slots_stay content old between known adopts.reads.keeps; sink = refl }
    where
      why : (fault : LoadFault) → Adopts tree (Err fault) old.disk between → StopsLoading fault old.disk between
      why (loading.DiskFailed slot) adopts = elim adopts.reads.cause [ inl risen ↦ risen | inr none ↦ absurd none ]
      why loading.NoMemory adopts = tt
      why loading.NoManifest adopts = absurd adopts.refused
      why (loading.BadManifest fault) adopts = absurd adopts.refused

  left_by : (adopted : Result Loaded LoadFault) → Adopts tree adopted old.disk between → AfterLoad tag stored.one_update adopted status (record old { disk = between }) new
      → IsUnloaded status content old new ⊎ IsRebuilt held stored.one_update image status content old new
  left_by (Err fault) adopts (e, same) =
      inl (subst (λ (status : Status). IsUnloaded status content old new) (sym e)
      (subst (λ (new : States). IsUnloaded (of_load fault) content old new) (sym same) (unadopted fault adopts)))
  left_by (Ok found) adopts (to, (is_status, runs)) =
      let one : found ≡ image = image_is tree content found (subst (λ (c : Option DiskContent). IsAdopted c tree found) known adopts.image) in
      let here : RunsLines tag 1 stored.one_update image to (record old { disk = between }) new =
      subst (λ (s : Loaded). RunsLines tag 1 stored.one_update s to (record old { disk = between }) new) one runs in
      let left = left_since tag stored.one_update status held content old new between is known (course held 1 stored.one_update image) to adopts.reads.faults
      (are_rebuilt tag held stored.one_update 1 image to content (record old { disk = between }) new is (adopts.reads.keeps.contents ∙ known) here) in
      inr (to, (is_status, rebuilds_by held stored.one_update 1 image to content old new left))

rebuilds_adopted : (tree : Nodes) (status : Status) (old new : States) → RunsAdopted tree status old new → RebuildsAdopted tree status old new
rebuilds_adopted tree status old new run = by old.store.held refl old.disk.contents refl
  where
    by : (h : Option Contents) → old.store.held ≡ h → (c : Option DiskContent) → old.disk.contents ≡ c → IfBothKnown h c (λ held content.
        IsUnloaded status content old new ⊎ IsRebuilt held stored.one_update (adopted_with tree content.now.aux) status content old new)
    by None is c known = tt
    by (Some held) is None known = tt
    by (Some held) is (Some content) known = left_by tree status held content old new run.between is known run.adopted run.adopts run.after

completes_adopted : (tree : Nodes) (status : Status) (old new : States) → RebuildsAdopted tree status old new → CompletesAdopted tree status old new
completes_adopted tree status old new rebuilds = by old.store.held old.disk.contents rebuilds
  where
    by : (h : Option Contents) (c : Option DiskContent)
        → IfBothKnown h c (λ held content. IsUnloaded status content old new ⊎ IsRebuilt held stored.one_update (adopted_with tree content.now.aux) status content old new)
        → IfBothKnown h c (λ held content. stored.NoneRose old new → (session : Loaded)
        → (course held 1 stored.one_update (adopted_with tree content.now.aux)).end ≡ Ok session → (status ≡ statuses.Done) ⊎ (status ≡ statuses.NoMemory))
    by None c left = tt
    by (Some held) None left = tt
    by (Some held) (Some content) left = λ none session done. by_left held stored.one_update (adopted_with tree content.now.aux) status content old new none session done left

-- ---- the texts

-- the mark "edited" has an influence on the manifest alone
pub writes_as_update : (held : Contents) (tree : Nodes) (aux : Content) → WritesAsUpdate held tree aux
unfolding new_manifest
writes_as_update held tree aux texts others are is =
    let plain : AreTextsOf Image held (image_with tree aux) (record texts { manifest = new_manifest Image held (image_with tree aux) }) =
    record { entries = are.entries; are = are.are; manifest_is = refl; cache_is = are.cache_is; aux_is = are.aux_is; report_is = are.report_is } in
    let same : record texts { manifest = new_manifest Image held (image_with tree aux) } ≡ others =
    one_update Image held (image_with tree aux) (record texts { manifest = new_manifest Image held (image_with tree aux) }) others plain is in
    record {
      manifest = are.manifest_is;
      cache = ap (λ (t : UpdateTexts). t.cache) same;
      aux = ap (λ (t : UpdateTexts). t.aux) same;
      report = ap (λ (t : UpdateTexts). t.report) same;
    }

each_as_update : (tree : Nodes) (h : Option Contents) (c : Option DiskContent) → IfBothKnown h c (λ held content. WritesAsUpdate held tree content.now.aux)
each_as_update tree None c = tt
each_as_update tree (Some held) None = tt
each_as_update tree (Some held) (Some content) = writes_as_update held tree content.now.aux

-- ---- a crash

whole_adopted : (tree : Nodes) (status : Status) (old new : States) → HasMoments old.disk → RunsAdopted tree status old new
    → LeavesWholeImage tree old.store.held status old.disk new.disk
whole_adopted tree status old new laws run = record { adopted = run.adopted; is = run.adopts.image; whole = by run.adopted run.adopts run.after }
  where
    by : (adopted : Result Loaded LoadFault) → Adopts tree adopted old.disk run.between → AfterLoad tag stored.one_update adopted status (record old { disk = run.between }) new
        → LeavesBy tag old.store.held stored.one_update adopted status old.disk new.disk
    by (Ok s) adopts (to, (is_status, runs)) =
        let keeps = adopts.reads.keeps in (
          to,
          (
            is_status,
            whole_since tag old.disk run.between keeps old.store.held 1 stored.one_update s to new.disk
                (whole_caches tag stored.one_update 1 s to (record old { disk = run.between }) new (moments_kept tag old.disk run.between keeps laws) runs),
          ),
        )
    by (Err fault) adopts (e, same) = subst (λ (new : States). (slot : Slot) (b : Content) → new.disk.since old.disk.time slot b ≡ true → old.disk.may slot b ≡ true) (sym same)
        (kept tag old.disk run.between adopts.reads.keeps laws)

-- ---- all of it

pub facts : (tree : Nodes) (status : Status) (old new : States) → HasMoments old.disk → RunsAdopted tree status old new → AdoptedFacts tree status old new
facts tree status old new laws run =
    let whole = whole_adopted tree status old new laws run in
    let rebuilds = rebuilds_adopted tree status old new run in
    record {
      rebuilds = rebuilds;
      as_update = each_as_update tree old.store.held old.disk.contents;
      completes = completes_adopted tree status old new rebuilds;
      whole = whole;
      repairs = repairs_adopted tree status old.store.held old.disk.contents old.disk new.disk refl whole;
    }

pub layers_facts : (keys : List (List ℕ)) (status : Status) (old new : States) → HasMoments old.disk → (run : RunsLayers keys status old new)
    → IfOk run.image (λ tree. AdoptedFacts tree status (record old { store = run.read }) new)
layers_facts keys status old new laws run = by run.image run.after
  where
    by : (image : Result Nodes ImageFault) → AfterImage image status (record old { store = run.read }) new → IfOk image (λ tree. AdoptedFacts tree status (record old { store = run.read }) new)
    by (Ok tree) after = facts tree status (record old { store = run.read }) new laws after
    by (Err fault) after = tt
