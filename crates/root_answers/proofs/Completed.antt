-- An update of a directory that can be updated is complete, unless an interface fails or memory runs out.
use Rattle.std.proofs.Common.{◌≡◌, ◌∙◌, ◌⊎◌, ◌<◌, ◌≤◌, inl, inr, ℕ, List, Bool, true, false, length, if◌then◌else◌, Option, Some, None, ap, arith, refl, sym}
use mathlib.Core.Bool.{false≢true}
use Rattle.std.specs.Prelude.{IsSomeAnd}
use Rattle.command_status.specs.declared.status.Status.{Status}
use Rattle.command_status.specs.declared.status.Status.TheVariants as statuses
use Rattle.image_session.specs.Session.{Loaded, image_with}
use Rattle.image_tree.specs.declared.tree.TheConstants.{NODES_MAX}
use Rattle.ldconfig_core.specs.Outcome.{Lacking, Outcome, TooLarge, TooMany, Writes}
use Rattle.lib_types.specs.Counts.{HasRisen}
use Rattle.root_answers.proofs.Directory.{any_aux, any_directory, of_image}
use Rattle.root_answers.specs.Answers.{Answers, check_text, verbose_text}
use Rattle.root_answers.specs.Check.{CheckEnds}
use Rattle.root_answers.specs.Ending.{GivesUp}
use Rattle.root_answers.specs.Run.{CanBeUpdated, Completes, HasCause, HasOutcome, RaisesNone, RunStates}
use Rattle.root_answers.specs.Update.{UpdateEnds}
use Rattle.root_answers.specs.declared.runs.RootAsked.{RootAsked}
use Rattle.root_folder.specs.Folder.{FolderContent}
use Rattle.root_tree.specs.ReadTree.{IsTooLarge}
use Rattle.root_update.specs.Check.{status_of_changes, would_change}
use Rattle.root_update.specs.Loading.{IfAux, LoadsRoot}
use Rattle.root_update.specs.Made.{image_states}
use Rattle.root_update.specs.declared.parts.RootParts.{RootParts}
use Rattle.tree_face.proofs.Known.{known_then}
use Rattle.tree_face.specs.Known.{IfKnown}
use Rattle.tree_face.specs.Store.{Contents}

abbrev writes : Outcome → Bool
writes Writes = true
writes Lacking = false
writes (TooLarge nodes bytes) = false
writes (TooMany count) = false

not_both : (n m : ℕ) → m < n → n ≤ m → ⊥
not_both n m less most = omega (arith, less, most)

some_known : {A : Type 0} (known : Option A) (P : A → Type 0) → IsSomeAnd known P → IfKnown known P
some_known None P none = tt
some_known (Some a) P is = is

module _ (parts : RootParts) (old new : RunStates) (X : Type 0) where
  abbrev pub Then : Contents → Loaded → Type 0
  Then held image = CanBeUpdated parts.scope held image → RaisesNone old new → X

  -- it fails for a reason that isn't in the directory
  by_error : (RaisesNone old new → ⊥) → Completes parts old new X
  by_error not = any_directory parts old.files Then (λ held image can none. absurd (not none))

  -- the outcome of the image isn't Writes
  by_outcome : (o : Outcome) → writes o ≡ false → IfKnown old.files.store.held (λ held. HasOutcome parts held o old.files new.files) → Completes parts old new X
  by_outcome o other is =
      of_image parts old.files Then (image_states new.files)
      (known_then old.files.store.held (λ held. HasOutcome parts held o old.files new.files)
      (λ held. (image : Loaded) × (LoadsRoot parts.aux image (image_states old.files) (image_states new.files) × Then held image))
      (λ held h. (h.image, (h.loads, λ can none. absurd (false≢true (sym other ∙ ap writes (sym h.is ∙ can.writes))))))
      is)

  by_size : IsTooLarge old.files.folder → Completes parts old new X
  by_size = by old.files.store.held old.files.folder.contents
    where
      by : (known : Option Contents) (a : Option FolderContent) → IfKnown a (λ c. NODES_MAX < length c.now)
          → IfKnown known (λ held. IfKnown a (λ dir. IfAux parts.aux old.files.disk.contents (λ aux. Then held (image_with dir.now aux))))
      by None a large = tt
      by (Some held) None large = tt
      by (Some held) (Some dir) large =
          any_aux parts.aux old.files.disk.contents (λ aux. Then held (image_with dir.now aux)) (λ aux can none. absurd (not_both (length dir.now) NODES_MAX large can.small))

  by_cause : (status : Status) → (status ≡ statuses.NoMemory → X) → HasCause parts status old.files new.files → Completes parts old new X
  by_cause statuses.StoreFault memory (inl risen) = by_error (λ none. none.reading risen)
  by_cause statuses.StoreFault memory (inr (inl risen)) = by_error (λ none. none.store risen)
  by_cause statuses.StoreFault memory (inr (inr lacks)) = by_outcome Lacking refl (some_known old.files.store.held (λ held. HasOutcome parts held Lacking old.files new.files) lacks)
  by_cause statuses.DiskFault memory risen = by_error (λ none. none.disk risen)
  by_cause (statuses.TooLarge nodes bytes) memory (inl large) = by_size large.1.1
  by_cause (statuses.TooLarge nodes bytes) memory (inr is) = by_outcome (TooLarge nodes bytes) refl is
  by_cause (statuses.TooMany count) memory is = by_outcome (TooMany count) refl is
  by_cause statuses.NoMemory memory is = any_directory parts old.files Then (λ held image can none. memory refl)
  by_cause statuses.Done memory is = absurd is
  by_cause statuses.Missing memory is = absurd is
  by_cause statuses.Usage memory is = absurd is
  by_cause (statuses.BadManifest fault) memory is = absurd is
  by_cause (statuses.BadScript line kind) memory is = absurd is
  by_cause statuses.NoCache memory is = absurd is
  by_cause (statuses.BadCache defect) memory is = absurd is
  by_cause statuses.NoProgram memory is = absurd is
  by_cause (statuses.BadProgram defect) memory is = absurd is
  by_cause statuses.InputFault memory is = absurd is
  by_cause statuses.OutputFault memory is = absurd is
  by_cause (statuses.TooLong taken) memory is = absurd is
  by_cause statuses.NoManifest memory is = absurd is
  by_cause (statuses.BadLayer layer kind) memory is = absurd is

  -- it is out of memory for the output, or the output fails, or the status is the expected one
  by_output : (status : Status) (text : List ℕ) (expected : Status) → (status ≡ expected → X) → (status ≡ statuses.NoMemory → X)
      → Answers text expected status old.sink new.sink ⊎ GivesUp status old.sink new.sink → Completes parts old new X
  by_output status text expected done memory (inl (inl whole)) = any_directory parts old.files Then (λ held image can none. done whole.0)
  by_output status text expected done memory (inl (inr cut)) = by_error (λ none. none.sink cut.1.1)
  by_output status text expected done memory (inr gave_up) = any_directory parts old.files Then (λ held image can none. memory gave_up.0)

module _ (asked : RootAsked) (status : Status) (old new : RunStates) where
  abbrev pub UpdateDone : Type 0
  UpdateDone = (status ≡ statuses.Done) ⊎ (status ≡ statuses.NoMemory)

  abbrev pub CheckDone : Type 0
  CheckDone = (status ≡ statuses.Done) ⊎ ((status ≡ statuses.Missing) ⊎ (status ≡ statuses.NoMemory))

  pub update_completes : UpdateEnds asked status old new → Completes asked.parts.now old new UpdateDone
  update_completes (inl first) = by_cause asked.parts.now old new UpdateDone status inr first.cause
  update_completes (inr (inl writing)) = by_error asked.parts.now old new UpdateDone (λ none. failed none writing.cause)
    where
      failed : RaisesNone old new → HasRisen old.files.folder.faults new.files.folder.faults ⊎ HasRisen old.files.disk.faults new.files.disk.faults → ⊥
      failed none (inl risen) = none.folder risen
      failed none (inr risen) = none.disk risen
  update_completes (inr (inr done)) =
      by_output asked.parts.now old new UpdateDone status (verbose_text asked.shown.front.now asked.shown.verbose done.updated.looked done.updated.links) statuses.Done inl inr done.output

  one_of : (w : Bool) → status ≡ (if w then statuses.Missing else statuses.Done) → CheckDone
  one_of true is = inr (inl is)
  one_of false is = inl is

  pub check_completes : CheckEnds asked status old new → Completes asked.parts.now old new CheckDone
  check_completes (inl first) = by_cause asked.parts.now old new CheckDone status (λ is. inr (inr is)) first.cause
  check_completes (inr lists) =
      by_output asked.parts.now old new CheckDone status (check_text asked.shown.front.now asked.shown.verbose lists.changes asked.shown.cache.now) (status_of_changes lists.changes)
      (one_of (would_change lists.changes)) (λ is. inr (inr is)) lists.output
