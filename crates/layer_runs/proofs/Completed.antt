-- Which status comes of layers that make an image, and of layers that make none.
use Rattle.std.proofs.Common.{◌≡◌, ◌⊎◌, inl, inr, ⊎_elim, ℕ, ◌≤◌, List, Option, Some, None, Result, Ok, Err, ap, refl, sym, subst, ◌∙◌}
use Rattle.command_status.specs.declared.status.LayerKind.{LayerKind}
use Rattle.command_status.specs.declared.status.Status.{Status}
use Rattle.command_status.specs.declared.status.Status.TheVariants as statuses
use Rattle.image_session.specs.Adopted.{adopted_with}
use Rattle.image_session.specs.Session.{Loaded}
use Rattle.image_tree.specs.Tree.{Nodes}
use Rattle.layer_trees.specs.Layers.{LacksLayer, Lacking, layers_of}
use Rattle.lib_types.proofs.Counts.{risen_since}
use Rattle.lib_types.specs.Counts.{HasRisen}
use Rattle.script_runs.specs.Course.{course}
use Rattle.script_runs.specs.Stored.{NoneRose, one_update}
use Rattle.std.specs.Option.{IsSomeAnd}
use Rattle.tree_face.specs.Crash.{HasMoments}
use Rattle.tree_face.specs.Devices.{IfBothKnown}
use Rattle.tree_face.specs.Disk.{DiskContent}
use Rattle.tree_face.specs.Known.{IfKnown}
use Rattle.tree_face.specs.Store.{Contents, StoreState}
use Rattle.update_runs.specs.Update.{States}
use Rattle.layer_runs.proofs.Adopted.{facts}
use Rattle.layer_runs.proofs.OneImage.{bad_not_lacking, no_bad_layer, none_lacking, one_image, one_layer}
use Rattle.layer_runs.specs.Image.{IsBadLayer, IsOfImage, MakeImage, ReadsImage}
use Rattle.layer_runs.specs.Left.{CompletesLayers, ComesOut, RefusesLayer}
use Rattle.layer_runs.specs.Run.{AfterImage, RunsAdopted, RunsLayers}
use Rattle.layer_runs.specs.declared.fault.ImageFault.{ImageFault}
use Rattle.layer_runs.specs.declared.fault.ImageFault.TheVariants as faults

-- the store that is known lacks no layer: it failed
risen : (known : Option Contents) (held : Contents) (keys : List (List ℕ)) (before after : ℕ) → known ≡ Some held → (layers_of held keys ≡ Lacking → ⊥)
    → HasRisen before after ⊎ LacksLayer known keys → HasRisen before after
risen known held keys before after is none (inl up) = up
risen known held keys before after is none (inr lacks) =
    absurd (none (subst (λ (k : Option Contents). IsSomeAnd k (λ held. layers_of held keys ≡ Lacking)) is lacks))

module _ (keys : List (List ℕ)) (status : Status) (old new : States) (run : RunsLayers keys status old new) (held : Contents) (is : old.store.held ≡ Some held) where
  abbrev between : States
  between = record old { store = run.read }

  known_image : (image : Result Nodes ImageFault) → IfKnown old.store.held (λ held. IsOfImage held keys image) → IsOfImage held keys image
  known_image image of = subst (λ (k : Option Contents). IfKnown k (λ held. IsOfImage held keys image)) is of

  -- ---- a layer that can't be part of an image

  module _ (number : ℕ) (kind : LayerKind) (bad : IsBadLayer held keys number kind) where
    by_result : (image : Result Nodes ImageFault) → ReadsImage keys image old.store run.read → AfterImage image status between new → ComesOut number kind status old new
    by_result (Ok tree) reads after = absurd (no_bad_layer held keys tree (known_image (Ok tree) reads.image) number kind bad)
    by_result (Err (faults.BadLayer m k)) reads after =
        let same = one_layer held keys number m kind k bad (known_image (Err (faults.BadLayer m k)) reads.image) in
        inl (after.0 ∙ ap (λ (n : ℕ). statuses.BadLayer n k) (sym same.0) ∙ ap (statuses.BadLayer number) (sym same.1))
    by_result (Err faults.StoreFault) reads after =
        let up : HasRisen old.store.faults run.read.faults = risen old.store.held held keys old.store.faults run.read.faults is (bad_not_lacking held keys number kind bad) reads.reads.cause in
        inr (inl (after.0, subst (λ (s : States). HasRisen old.store.faults s.store.faults) (sym after.1) up))
    by_result (Err faults.NoMemory) reads after = inr (inr after.0)

    pub comes_out : ComesOut number kind status old new
    comes_out = by_result run.image run.reads run.after

  -- ---- layers that make an image

  module _ (content : DiskContent) (known : old.disk.contents ≡ Some content) (moments : HasMoments old.disk) (tree : Nodes) (made : MakeImage held keys tree) (none : NoneRose old new)
      (session : Loaded) (ends : (course held 1 one_update (adopted_with tree content.now.aux)).end ≡ Ok session) where
    since : old.store.faults ≤ run.read.faults → NoneRose between new
    since more = record { store = λ up. none.store (risen_since old.store.faults run.read.faults new.store.faults more up); disk = none.disk; sink = none.sink }

    updated : (found : Nodes) → found ≡ tree → ReadsImage keys (Ok found) old.store run.read → RunsAdopted found status between new → (status ≡ statuses.Done) ⊎ (status ≡ statuses.NoMemory)
    updated found same reads after = subst (λ (c : Option DiskContent). IfKnown c (λ content. NoneRose between new → (session : Loaded)
        → (course held 1 one_update (adopted_with found content.now.aux)).end ≡ Ok session → (status ≡ statuses.Done) ⊎ (status ≡ statuses.NoMemory))) known
        (subst (λ (k : Option Contents). IfBothKnown k old.disk.contents (λ held content. NoneRose between new → (session : Loaded)
        → (course held 1 one_update (adopted_with found content.now.aux)).end ≡ Ok session → (status ≡ statuses.Done) ⊎ (status ≡ statuses.NoMemory))) (reads.reads.held ∙ is)
        (facts found status between new moments after).completes)
        (since reads.reads.faults) session (subst (λ (t : Nodes). (course held 1 one_update (adopted_with t content.now.aux)).end ≡ Ok session) (sym same) ends)

    by_image : (image : Result Nodes ImageFault) → ReadsImage keys image old.store run.read → AfterImage image status between new → (status ≡ statuses.Done) ⊎ (status ≡ statuses.NoMemory)
    by_image (Ok found) reads after = updated found (one_image held keys tree made found (known_image (Ok found) reads.image)) reads after
    by_image (Err (faults.BadLayer m k)) reads after = absurd (no_bad_layer held keys tree made m k (known_image (Err (faults.BadLayer m k)) reads.image))
    by_image (Err faults.StoreFault) reads after =
        let up : HasRisen old.store.faults run.read.faults = risen old.store.held held keys old.store.faults run.read.faults is (none_lacking held keys tree made) reads.reads.cause in
        absurd (none.store (subst (λ (s : States). HasRisen old.store.faults s.store.faults) (sym after.1) up))
    by_image (Err faults.NoMemory) reads after = inr after.0

    pub done : (status ≡ statuses.Done) ⊎ (status ≡ statuses.NoMemory)
    done = by_image run.image run.reads run.after

-- ---- contents that are known

pub refuses : (keys : List (List ℕ)) (status : Status) (old new : States) → RunsLayers keys status old new → RefusesLayer keys status old new
refuses keys status old new run = by old.store.held refl
  where
    by : (known : Option Contents) → old.store.held ≡ known → IfKnown known (λ held. (number : ℕ) (kind : LayerKind) → IsBadLayer held keys number kind → ComesOut number kind status old new)
    by None is = tt
    by (Some held) is = λ number kind bad. comes_out keys status old new run held is number kind bad

pub completes : (keys : List (List ℕ)) (status : Status) (old new : States) → HasMoments old.disk → RunsLayers keys status old new → CompletesLayers keys status old new
completes keys status old new moments run = by old.store.held refl old.disk.contents refl
  where
    by : (known : Option Contents) → old.store.held ≡ known → (c : Option DiskContent) → old.disk.contents ≡ c → IfBothKnown known c (λ held content. (tree : Nodes) → MakeImage held keys tree
        → NoneRose old new → (session : Loaded) → (course held 1 one_update (adopted_with tree content.now.aux)).end ≡ Ok session → (status ≡ statuses.Done) ⊎ (status ≡ statuses.NoMemory))
    by None is c known = tt
    by (Some held) is None known = tt
    by (Some held) is (Some content) known = λ tree made none session ends. done keys status old new run held is content known moments tree made none session ends
