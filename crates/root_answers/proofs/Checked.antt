-- What a check of a directory finds.
use Rattle.std.proofs.Common.{◌≡◌, ◌∙◌, ◌∷◌, ◌&&◌, ◌||◌, ◌==◌, Bool, true, false, not, ℕ, List, [], length, if◌then◌else◌, Option, Some, None, Err, ap, refl, subst, sym}
use Rattle.command_status.specs.declared.status.Status.{Status}
use Rattle.image_session.proofs.ReadSlots.{reads_next}
use Rattle.image_session.specs.Reading.{slot_ending}
use Rattle.image_session.specs.declared.fault.SlotFault.{SlotFault}
use Rattle.image_session.specs.declared.fault.SlotFault.TheVariants as slots
use Rattle.ldconfig_core.specs.Texts.{AreTextsOf}
use Rattle.lib_types.specs.Counts.{HasRisen}
use Rattle.library_search.specs.Ldconfig.{links_in}
use Rattle.link_plan.specs.declared.kinds.Planned.{Planned}
use Rattle.root_answers.proofs.Directory.{of_one}
use Rattle.root_answers.proofs.First.{only_risen}
use Rattle.root_answers.specs.Check.{IsChecked, SaysWhether}
use Rattle.root_answers.specs.Run.{FailsFirst, HasCause, RunStates}
use Rattle.root_answers.specs.declared.runs.RootAsked.{RootAsked}
use Rattle.root_update.specs.Check.{FindsChanges, ReadsNoCache, aux_slots}
use Rattle.root_update.specs.Faults.{of_root}
use Rattle.root_update.specs.Made.{RootStates}
use Rattle.root_update.specs.declared.checking.RootChanges.{RootChanges}
use Rattle.root_update.specs.declared.fault.RootFault.TheVariants as faults
use Rattle.root_update.specs.declared.parts.RootParts.{RootParts}
use Rattle.tree_face.specs.Disk.{Content, DiskContent, content_eq}
use Rattle.tree_face.specs.Known.{IfKnown}
use Rattle.tree_face.specs.Store.{Contents}
use Rattle.tree_face.specs.declared.disk.Slot.TheVariants.{Cache}
use Rattle.root_update.proofs.Checked.{aux_read}

-- links that aren't asked for don't count
counted : (on : Bool) (plan : List Planned) → not (length (if on then plan else []) == 0) ≡ (on && not (length plan == 0))
counted true plan = refl
counted false plan = refl

module _ (asked : RootAsked) (changes : RootChanges) (old new : RootStates) (f : FindsChanges asked.parts.now changes old new) where
  abbrev pub parts : RootParts
  parts = asked.parts.now

  says_by : (known : Option Contents) (files : Option DiskContent) → IfKnown known (λ held. AreTextsOf parts.scope held f.image f.texts)
      → IfKnown known (λ held. f.plan ≡ links_in parts.scope held f.image.tree f.image.stamps)
      → IfKnown files (λ c. changes.cache ≡ (parts.cache && not (content_eq c.now.cache (Some f.texts.cache))))
      → IfKnown known (λ held. IfKnown files (λ c. SaysWhether parts held f.image c.now.cache changes))
  says_by None files are plan cache = tt
  says_by (Some held) None are plan cache = tt
  says_by (Some held) (Some c) are plan cache = record {
    texts = f.texts;
    are = are;
    is = ap (λ (b : Bool). b || not (length changes.links == 0)) cache
        ∙ ap (λ (ls : List Planned). (parts.cache && not (content_eq c.now.cache (Some f.texts.cache))) || not (length ls == 0)) f.info.links
        ∙ ap (λ (b : Bool). (parts.cache && not (content_eq c.now.cache (Some f.texts.cache))) || b) (counted parts.links f.plan)
        ∙ ap (λ (ls : List Planned). (parts.cache && not (content_eq c.now.cache (Some f.texts.cache))) || (parts.links && not (length ls == 0))) plan;
  }

  pub is_checked : IsChecked asked changes old new
  is_checked = record {
    finds = f;
    nothing = record { folder = f.makes.loads.tree_is.reads.keeps; made = f.makes.loads.tree_is.reads.made; disk = f.reads.keeps };
    errors = record { folder = f.makes.loads.tree_is.reads.done.faults; store = f.makes.reads.any.cause; disk = f.reads.cause };
    says = of_one parts old (λ held image. IfKnown old.disk.contents (λ c. SaysWhether parts held image c.now.cache changes)) _ f.image f.makes.loads
        (says_by old.store.held old.disk.contents f.makes.texts_are.are.are_of f.makes.texts_are.plan_is f.cache_is);
  }

module _ (parts : RootParts) (old new : RootStates) where
  -- the existing cache can't be read
  no_cache : (fault : SlotFault) → ReadsNoCache parts fault old new → HasCause parts (of_root (faults.Slot fault)) old new
  no_cache (slots.DiskFailed slot) r =
      subst (λ (n : ℕ). HasRisen n new.disk.faults) (aux_read parts.aux r.makes.loads.aux old.disk r.disk r.makes.loads.aux_is).cause (only_risen r.reads.reads.cause)
  no_cache slots.NoMemory r = record {
    folder = r.makes.loads.tree_is.reads.done.faults;
    store = r.makes.reads.any.cause;
    disk = r.reads.reads.cause ∙ (aux_read parts.aux r.makes.loads.aux old.disk r.disk r.makes.loads.aux_is).cause;
  }

pub fails_reading : (parts : RootParts) (old new : RunStates) (fault : SlotFault) (status : Status) → ReadsNoCache parts fault old.files new.files
    → (status ≡ of_root (faults.Slot fault)) × (new.sink ≡ old.sink) → FailsFirst parts status old new
fails_reading parts old new fault status r ends = record {
  cause = subst (λ (s : Status). HasCause parts s old.files new.files) (sym ends.0) (no_cache parts old.files new.files fault r);
  nothing = record {
    folder = r.makes.loads.tree_is.reads.keeps;
    made = r.makes.loads.tree_is.reads.made;
    disk = (reads_next (aux_slots parts.aux) (Cache ∷ []) (slot_ending {A = Content} (Err fault)) old.files.disk r.disk new.files.disk
        (aux_read parts.aux r.makes.loads.aux old.files.disk r.disk r.makes.loads.aux_is) r.reads.reads).keeps;
  };
  output = ends.1;
}
