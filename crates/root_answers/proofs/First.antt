-- A run that fails before it writes.
use Rattle.std.proofs.Common.{◌≡◌, ◌⊎◌, inl, inr, true, Option, Some, None, Err, ap, refl, subst, sym}
use mathlib.Core.Bool.{false≢true}
use Rattle.std.specs.Prelude.{IsSomeAnd}
use Rattle.command_status.specs.declared.status.Status.{Status}
use Rattle.image_session.specs.Session.{Loaded}
use Rattle.image_session.specs.declared.fault.SlotFault.TheVariants as slots
use Rattle.ldconfig_core.specs.Outcome.{Lacking, Outcome, TooLarge, TooMany, update_outcome}
use Rattle.ldconfig_core.specs.Update.{IsAnswer}
use Rattle.ldconfig_core.specs.declared.fault.UpdateFault.TheVariants as updating
use Rattle.ldconfig_core.specs.declared.preparing.Prepared.{Prepared}
use Rattle.lib_types.specs.Counts.{HasRisen}
use Rattle.library_search.specs.Begun.{lacks_some}
use Rattle.root_answers.proofs.Directory.{unused}
use Rattle.root_answers.specs.Run.{FailsFirst, HasCause, HasOutcome, RunStates, WritesNothing}
use Rattle.root_folder.specs.Folder.{FolderState}
use Rattle.root_tree.proofs.Readings.{no_reading}
use Rattle.root_tree.specs.ReadTree.{HasRead}
use Rattle.root_tree.specs.declared.fault.TreeRead.TheVariants as reads
use Rattle.root_update.specs.Faults.{of_root}
use Rattle.root_update.specs.Loading.{LoadsRoot}
use Rattle.root_update.specs.Made.{MakesNone, RootStates, image_states}
use Rattle.root_update.specs.declared.fault.RootFault.{RootFault}
use Rattle.root_update.specs.declared.fault.RootFault.TheVariants as faults
use Rattle.root_update.specs.declared.parts.RootParts.{RootParts}
use Rattle.tree_face.specs.Known.{IfKnown}
use Rattle.tree_face.specs.Store.{Contents, StoreState}
use Rattle.root_update.proofs.Checked.{aux_read}

pub only_risen : {A : Type 0} → A ⊎ ⊥ → A
only_risen (inl a) = a
only_risen (inr none) = absurd none

read_by : (a b : FolderState) → b ≡ a → HasRead a b
read_by a b same = subst (λ (s : FolderState). HasRead a s) (sym same) (no_reading a)

module _ (parts : RootParts) (old new : RootStates) where
  lacking : (image : Loaded) → LoadsRoot parts.aux image (image_states old) (image_states new) → (known : Option Contents)
      → IfKnown known (λ held. IsAnswer {A = Prepared} (update_outcome parts.scope held image) (Err updating.StoreFault) old.store new.store)
      → HasRisen old.store.faults new.store.faults ⊎ IsSomeAnd known (λ held. lacks_some parts.scope held image.tree ≡ true)
      → HasRisen old.store.faults new.store.faults ⊎ IsSomeAnd known (λ held. HasOutcome parts held Lacking old new)
  lacking image loads None answers (inl risen) = inl risen
  lacking image loads None answers (inr none) = absurd none
  lacking image loads (Some held) (inl risen) any = inl risen
  lacking image loads (Some held) (inr lacks) any = inr (record { image = image; loads = loads; is = lacks })

  outcome : (image : Loaded) → LoadsRoot parts.aux image (image_states old) (image_states new) → (o : Outcome) (known : Option Contents)
      → IfKnown known (λ held. update_outcome parts.scope held image ≡ o) → IfKnown known (λ held. HasOutcome parts held o old new)
  outcome image loads o None is = tt
  outcome image loads o (Some held) is = record { image = image; loads = loads; is = is }

  cause : (fault : RootFault) → MakesNone parts.scope parts.aux fault old new → HasCause parts (of_root fault) old new
  cause (faults.Slot (slots.DiskFailed slot)) is = only_risen (unused parts.aux (slots.DiskFailed slot) old.disk new.disk is.0.slot).reads.cause
  cause (faults.Slot slots.NoMemory) is = record {
    folder = ap (λ (s : FolderState). s.faults) is.0.folder;
    store = ap (λ (s : StoreState). s.faults) is.1;
    disk = (unused parts.aux slots.NoMemory old.disk new.disk is.0.slot).reads.cause;
  }
  cause (faults.Tree (reads.Failed at)) is = inl is.0.tree.reads.failed.1
  cause (faults.Tree reads.TooLarge) is = inl (refl, (refl, is.0.tree.too_large refl))
  cause (faults.Tree reads.NoMemory) is = record {
    folder = is.0.tree.reads.failed.faults;
    store = ap (λ (s : StoreState). s.faults) is.1;
    disk = (aux_read parts.aux is.0.aux old.disk new.disk is.0.aux_is).cause;
  }
  cause (faults.Update updating.StoreFault) is = inr (lacking is.image is.loads old.store.held is.answers is.reads.any.cause)
  cause (faults.Update (updating.TooLarge nodes bytes)) is = inr (outcome is.image is.loads (TooLarge nodes bytes) old.store.held is.answers)
  cause (faults.Update (updating.TooMany count)) is = outcome is.image is.loads (TooMany count) old.store.held is.answers
  cause (faults.Update (updating.DiskFault fault)) is = absurd (false≢true is.others)
  cause (faults.Update updating.NoMemory) is = record {
    folder = is.loads.tree_is.reads.done.faults;
    store = is.reads.any.cause;
    disk = (aux_read parts.aux is.loads.aux old.disk new.disk is.loads.aux_is).cause;
  }
  cause (faults.Write fault) is = absurd is

  nothing : (fault : RootFault) → MakesNone parts.scope parts.aux fault old new → WritesNothing old new
  nothing (faults.Slot fault) is =
      let folder = read_by old.folder new.folder is.0.folder in
      record { folder = folder.keeps; made = folder.made; disk = (unused parts.aux fault old.disk new.disk is.0.slot).reads.keeps }
  nothing (faults.Tree fault) is = record {
    folder = is.0.tree.reads.keeps;
    made = is.0.tree.reads.made;
    disk = (aux_read parts.aux is.0.aux old.disk new.disk is.0.aux_is).keeps;
  }
  nothing (faults.Update fault) is = record {
    folder = is.loads.tree_is.reads.keeps;
    made = is.loads.tree_is.reads.made;
    disk = (aux_read parts.aux is.loads.aux old.disk new.disk is.loads.aux_is).keeps;
  }
  nothing (faults.Write fault) is = absurd is

pub fails_first : (parts : RootParts) (old new : RunStates) (fault : RootFault) (status : Status) → MakesNone parts.scope parts.aux fault old.files new.files
    → (status ≡ of_root fault) × (new.sink ≡ old.sink) → FailsFirst parts status old new
fails_first parts old new fault status is ends = record {
  cause = subst (λ (s : Status). HasCause parts s old.files new.files) (sym ends.0) (cause parts old.files new.files fault is);
  nothing = nothing parts old.files new.files fault is;
  output = ends.1;
}
