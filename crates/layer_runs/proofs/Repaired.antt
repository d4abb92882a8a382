-- What a crash of the update of an adopted image leaves is repaired by the same layers, and, if the manifest is the new one, by an update.
use Rattle.std.proofs.Common.{◌≡◌, ◌⊎◌, ℕ, List, [], ◌∷◌, All, Option, Some, None, Result, Ok, Err, IfOk, refl, ap, sym, subst, ◌∙◌, inl, inr, true}
use Rattle.std.specs.List.{Contains}
use Rattle.std.proofs.lemmas.List.Elements.{All-cons, All-contains, All-nil}
use Rattle.hwcap_dirs.specs.declared.kinds.Scope.TheVariants.{Image}
use Rattle.atomic_replace.specs.OneByOne.{IsOfWrites}
use Rattle.command_status.specs.declared.status.Status.{Status}
use Rattle.file_stamps.specs.Stamped.{AreTrue}
use Rattle.aux_cache.specs.declared.stamps.Stamp.{Stamp}
use Rattle.image_session.specs.Adopted.{IsAdopted, adopted_with}
use Rattle.image_session.specs.Aux.{stamps_of_slot}
use Rattle.image_session.specs.Manifest.{manifest_of}
use Rattle.image_session.specs.Session.{Loaded, image_with}
use Rattle.image_session.specs.declared.fault.LoadFault.{LoadFault}
use Rattle.image_tree.specs.Tree.{Nodes}
use Rattle.ldconfig_core.proofs.OneText.{again, one_outcome, one_written}
use Rattle.ldconfig_core.proofs.WrittenSlots.{aux_written, manifest_written}
use Rattle.ldconfig_core.specs.Outcome.{Lacking, Outcome, TooLarge, TooMany, Writes, update_outcome}
use Rattle.ldconfig_core.specs.Settled.{AreCachesAgain, IfReads, planned_image}
use Rattle.ldconfig_core.specs.Texts.{AreAlike, AreTextsOf, UpdateTexts, writes_of}
use Rattle.library_search.specs.Ldconfig.{stamps_in}
use Rattle.script_runs.proofs.ReliableCourse.{made_true}
use Rattle.script_runs.proofs.RepairedScript.{IsWrittenOf, written_of}
use Rattle.script_runs.specs.Course.{Course, IsReliable, course, course_of_update}
use Rattle.script_runs.specs.Crash.{IsOfUpdate, LeavesWholeCaches}
use Rattle.script_runs.specs.Left.{IsUpdateOf}
use Rattle.script_runs.specs.Stored.{LeavesBy}
use Rattle.script_runs.specs.Stored as stored
use Rattle.tree_face.specs.Devices.{IfBothKnown}
use Rattle.tree_face.specs.Disk.{Content, DiskContent, DiskState, Slots, slot_of}
use Rattle.tree_face.specs.Store.{Contents}
use Rattle.tree_face.specs.declared.disk.Slot.{Slot}
use Rattle.tree_face.specs.declared.disk.Slot.TheVariants.{Aux, Manifest}
use Rattle.layer_runs.specs.Crash.{IsRepairable, IsRepairedByLayers, IsRepairedByUpdate, LeavesOnlyAux, LeavesWholeImage, RepairsAdopted}
use Rattle.layer_runs.specs.Run.{tag}

-- ---- the one update of the expected run

only_this : (held : Contents) (s : Loaded) (outcome : Outcome) (rest : Loaded → Course) → (rest (planned_image Image held s)).updates ≡ []
    → All (λ u. u ≡ s) (course_of_update held s outcome rest).updates
only_this held s Writes rest none = subst (λ (us : List Loaded). All (λ u. u ≡ s) (s ∷ us)) (sym none) (All-cons (λ u. u ≡ s) s [] refl (All-nil (λ u. u ≡ s)))
only_this held s Lacking rest none = All-nil (λ u. u ≡ s)
only_this held s (TooLarge nodes bytes) rest none = All-nil (λ u. u ≡ s)
only_this held s (TooMany count) rest none = All-nil (λ u. u ≡ s)

is_this : (held : Contents) (s u : Loaded) → Contains (course held 1 stored.one_update s).updates u → u ≡ s
is_this held s u among =
    All-contains (λ (u : Loaded). u ≡ s) (course held 1 stored.one_update s).updates u
    (only_this held s (update_outcome Image held s) (λ session. course held 2 [] session) refl) among

-- ---- the files that are left

module _ (held : Contents) (tree : Nodes) (aux : Content) (reliable : IsReliable held (adopted_with tree aux)) (old : DiskState) (image : Slots) where
  abbrev before : Loaded
  before = adopted_with tree aux

  -- a slot has what a crash at the start might have left there, or what the update wrote
  abbrev IsEither : Slot → Type 0
  IsEither slot = (old.may slot (slot_of image slot) ≡ true) ⊎ IsWrittenOf held slot (slot_of image slot) (course held 1 stored.one_update before).updates

  of_this : (slot : Slot) → IsWrittenOf held slot (slot_of image slot) (course held 1 stored.one_update before).updates
      → (texts : UpdateTexts) × (IsUpdateOf held before texts × IsOfWrites (writes_of texts) slot (slot_of image slot))
  of_this slot w = (w.texts, (subst (λ (u : Loaded). IsUpdateOf held u w.texts) (is_this held before w.image w.among) w.are, w.there))

  module _ (only : LeavesOnlyAux old aux) (in_aux : IsEither Aux) (in_manifest : IsEither Manifest) where
    abbrev stamps_left : List Stamp
    stamps_left = stamps_of_slot image.aux

    -- the stamps are the old ones, or those of the update
    all_true : AreTrue held tree stamps_left
    all_true = elim in_aux [
      | inl was ↦ subst (λ (x : Content). AreTrue held tree (stamps_of_slot x)) (sym (only image.aux was)) reliable.0
      | inr w ↦
          let this = of_this Aux w in
          let is : stamps_left ≡ stamps_in Image held tree before.stamps =
          ap stamps_of_slot (aux_written this.0.manifest this.0.cache this.0.aux image.aux this.1.1) ∙ this.1.0.aux_read in
          subst (λ (x : List Stamp). AreTrue held tree x) (sym is) (made_true held before reliable tree reliable.1)
    ]

    by_layers : IsRepairedByLayers held tree before (adopted_with tree image.aux)
    by_layers = record {
      are_true = all_true;
      outcome = one_outcome Image held before (adopted_with tree image.aux) refl refl reliable.1 reliable.0 all_true;
      again = λ texts others are is. one_written Image held before (adopted_with tree image.aux) refl refl reliable.1 reliable.0 all_true texts others are is;
    }

    -- ---- an update over the new manifest

    module _ (texts : UpdateTexts) (is : IsUpdateOf held before texts) where
      abbrev planned : Loaded
      planned = planned_image Image held before

      abbrev left : Loaded
      left = image_with planned.tree image.aux

      left_true : AreTrue held left.tree left.stamps
      left_true = (is.settled reliable).true_too stamps_left all_true

      written_again : (texts others : UpdateTexts) → AreTextsOf Image held before texts → AreTextsOf Image held left others → AreCachesAgain texts others
      written_again texts others are these =
          let settled = is.settled reliable in
          let more = again Image held before planned texts settled are in
          let one : AreAlike more.0 others = one_written Image held planned left refl refl settled.same settled.are_true left_true more.0 others more.1.0 these in
          record { manifest = one.manifest ∙ more.1.1.manifest; cache = one.cache ∙ more.1.1.cache; aux = one.aux ∙ more.1.1.aux }

      of_update : IsOfUpdate held before left
      of_update =
          let settled = is.settled reliable in
          record { tree = refl; made = one_outcome Image held planned left refl refl settled.same settled.are_true left_true ∙ settled.outcome is.made; again = written_again }

    by_update : IsRepairedByUpdate held before old image
    by_update = elim in_manifest [
      | inl was ↦ inl was
      | inr w ↦
          let this = of_this Manifest w in
          let text = manifest_written this.0 image.manifest this.1.1 in
          inr (
            text.1.1 ∙ sym text.1.0 ∙ this.1.0.are.manifest_is,
            (
              left this.0 this.1.0,
              (
                record {
                  tree = ap manifest_of text.1.1
                      ∙ subst (λ (manifest : Option (List ℕ)). IfReads manifest (planned_image Image held before)) text.1.0 this.1.0.manifest_read;
                  is = refl;
                },
                of_update this.0 this.1.0,
              ),
            ),
          )
    ]

    repairable : IsRepairable held tree before old image
    repairable = record { by_layers = by_layers; by_update = by_update }

-- ---- a crash of the command

module _ (tree : Nodes) (status : Status) (held : Contents) (content : DiskContent) (old new : DiskState) (known : old.contents ≡ Some content) where
  by_adopted : (adopted : Result Loaded LoadFault) → IfOk adopted (IsAdopted old.contents tree) → LeavesBy tag (Some held) stored.one_update adopted status old new
      → RepairsAdopted held tree content old new
  by_adopted (Ok found) is (to, (is_status, left)) only reliable image might =
      let there : IsAdopted (Some content) tree found = subst (λ (c : Option DiskContent). IsAdopted c tree found) known is in
      let one : found ≡ adopted_with tree content.now.aux = there.is ∙ ap (adopted_with tree) (sym there.in_slot) in
      let whole : LeavesWholeCaches tag (Some held) 1 stored.one_update (adopted_with tree content.now.aux) to old new =
      subst (λ (s : Loaded). LeavesWholeCaches tag (Some held) 1 stored.one_update s to old new) one left in
      let either : (slot : Slot) → IsEither held tree content.now.aux reliable old image slot =
      (λ slot. elim (whole.whole slot (slot_of image slot) (might slot)) [
        | inl was ↦ inl was
        | inr w ↦ inr (written_of held slot (slot_of image slot) to (course held 1 stored.one_update (adopted_with tree content.now.aux)).updates whole.updates whole.of_course w)
      ]) in
      repairable held tree content.now.aux reliable old image only (either Aux) (either Manifest)
  by_adopted (Err fault) is left only reliable image might =
      repairable held tree content.now.aux reliable old image only (inl (left Aux image.aux (might Aux))) (inl (left Manifest image.manifest (might Manifest)))

pub repairs_adopted : (tree : Nodes) (status : Status) (known : Option Contents) (disk : Option DiskContent) (old new : DiskState) → old.contents ≡ disk
    → LeavesWholeImage tree known status old new → IfBothKnown known disk (λ held content. RepairsAdopted held tree content old new)
repairs_adopted tree status None disk old new is whole = tt
repairs_adopted tree status (Some held) None old new is whole = tt
repairs_adopted tree status (Some held) (Some content) old new is whole = by_adopted tree status held content old new is whole.adopted whole.is whole.whole
