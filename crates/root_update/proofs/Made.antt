-- What an update of a directory makes, from the contracts of its parts.
use Rattle.std.proofs.Common.{◌≡◌, List, Option, Some, None, Err, refl}
use Rattle.hwcap_dirs.specs.declared.kinds.Scope.{Scope}
use Rattle.image_session.specs.Aux.{stamps_of_slot}
use Rattle.image_session.specs.Session.{Loaded}
use Rattle.image_tree.specs.Tree.{Nodes}
use Rattle.ldconfig_core.proofs.PreparedTexts.{making_ends}
use Rattle.ldconfig_core.specs.Outcome.{Writes, update_outcome}
use Rattle.ldconfig_core.specs.Settled.{AreSettled, planned_image}
use Rattle.ldconfig_core.specs.Stages.{stored_image, texts_of}
use Rattle.ldconfig_core.specs.Texts.{AreTextsOf, UpdateTexts}
use Rattle.ldconfig_core.specs.Update.{AreUpdateTexts, IfReliably, IsAnswer, IsUpdated, ReadsUpdate}
use Rattle.ldconfig_core.specs.declared.fault.UpdateFault.TheVariants as updating
use Rattle.ldconfig_core.specs.declared.preparing.Prepared.{Prepared}
use Rattle.library_search.specs.Ldconfig.{links_in, stamps_in}
use Rattle.link_plan.specs.declared.kinds.Planned.{Planned}
use Rattle.root_update.proofs.Again.{is_rebuilt, is_settled}
use Rattle.root_update.proofs.AsImage.{same_cache}
use Rattle.root_update.specs.Loading.{LoadsRoot}
use Rattle.root_update.specs.Made.{IsRootReport, IsRootSettled, MakesRoot, RefusesRoot, RootStates, image_states}
use Rattle.root_update.specs.declared.parts.AuxUse.{AuxUse}
use Rattle.tree_face.proofs.Known.{known_then}
use Rattle.tree_face.specs.Known.{IfKnown}
use Rattle.tree_face.specs.Store.{Contents}
use Rattle.tree_face.specs.StoreUse.{Complete}

-- the facts of a second update
settles : (scope : Scope) (image : Loaded) (texts : UpdateTexts) (known : Option Contents) → IfKnown known (λ held. AreTextsOf scope held image texts)
    → IfKnown known (λ held. stamps_of_slot (Some texts.aux) ≡ stamps_in scope held image.tree image.stamps)
    → IfReliably known image (λ held. AreSettled scope held image (planned_image scope held image)) → IfKnown known (λ held. update_outcome scope held image ≡ Writes)
    → IfReliably known image (λ held. IsRootSettled scope held image texts)
settles scope image texts None are read settled writes = tt
settles scope image texts (Some held) are read settled writes = λ truth same. is_settled scope held image texts are (settled truth same) read writes

module _ (scope : Scope) (how : AuxUse) (image : Loaded) (prepared : Prepared) (old new : RootStates) where
  pub makes : LoadsRoot how image (image_states old) (image_states new) → AreUpdateTexts scope image old.store.held (texts_of prepared)
      → IfKnown old.store.held (λ held. prepared.plan ≡ links_in scope held image.tree image.stamps)
      → IfKnown old.store.held (λ held. update_outcome scope held image ≡ Writes) → ReadsUpdate scope image Complete old.store new.store
      → MakesRoot scope how image prepared.plan (texts_of prepared) old new
  makes loads are plan writes reads = record {
    loads = loads;
    texts_are = record {
      are = are;
      plan_is = plan;
      as_image = known_then old.store.held _ _ (λ held texts same all others is. same_cache scope held image same all (texts_of prepared) others texts is) are.are_of;
      rebuilt = known_then old.store.held _ _ (λ held texts truth same. is_rebuilt scope held image (texts_of prepared) texts truth same) are.are_of;
      settles = settles scope image (texts_of prepared) old.store.held are.are_of are.aux_read are.settles writes;
    };
    writes = writes;
    reads = reads;
  }

-- its report
pub report : (scope : Scope) (image : Loaded) (prepared : Prepared) (known : Option Contents) (tree : Nodes)
    → IfKnown known (λ held. IsUpdated scope held image (stored_image tree prepared.stamps, prepared.report)) → IsRootReport scope known image (texts_of prepared) prepared.report
report scope image prepared known tree updated = record { text = refl; numbers = known_then known _ _ (λ held is. is.report) updated }

-- out of memory for the list of links
pub out_of_memory : (scope : Scope) (how : AuxUse) (image : Loaded) (plan : List Planned) (texts : UpdateTexts) (old new : RootStates) → MakesRoot scope how image plan texts old new
    → RefusesRoot scope how updating.NoMemory old new
out_of_memory scope how image plan texts old new is = record {
  image = image;
  loads = is.loads;
  answers = any old.store.held;
  reads = making_ends scope Prepared image old.store new.store updating.NoMemory refl is.reads;
  others = refl;
}
  where
    any : (known : Option Contents) → IfKnown known (λ held. IsAnswer {A = Prepared} (update_outcome scope held image) (Err updating.NoMemory) old.store new.store)
    any None = tt
    any (Some held) = tt
