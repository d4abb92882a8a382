-- The next update of a directory repairs what an earlier one has left.
use Rattle.std.proofs.Common.{◌≡◌, ◌∙◌, false, Option, Some, None, Result, ap, refl, subst}
use Rattle.image_session.specs.Session.{Loaded, image_with}
use Rattle.image_tree.specs.Tree.{Nodes}
use Rattle.ldconfig_core.specs.Outcome.{Writes, update_outcome}
use Rattle.library_search.specs.Ldconfig.{links_in}
use Rattle.partial_links.proofs.Runs.{repairs}
use Rattle.partial_links.specs.Left.{Repairs}
use Rattle.partial_links.specs.Resumed.{is_image}
use Rattle.root_folder.specs.Crash.{HasMoments, HasWholeTree}
use Rattle.root_folder.specs.Folder.{FolderContent}
use Rattle.root_update.proofs.Loaded.{if_aux}
use Rattle.root_update.specs.Loading.{IfAux}
use Rattle.root_update.specs.Made.{RootStates, image_states}
use Rattle.root_update.specs.Repair.{RepairsRoot}
use Rattle.root_update.specs.Update.{WritesMade, files_for}
use Rattle.root_update.specs.declared.parts.RootParts.{RootParts}
use Rattle.root_update.specs.declared.updating.Updated.{Updated}
use Rattle.root_writes.specs.Writing.{states}
use Rattle.root_writes.specs.declared.fault.WriteFault.{WriteFault}
use Rattle.tree_face.specs.Known.{IfKnown}
use Rattle.tree_face.specs.Store.{Contents}
use Rattle.tree_face.specs.declared.disk.Tag.{Tag}

module _ (parts : RootParts) (tag : Tag) (result : Result (Unit {0}) WriteFault) (updated : Option Updated) (old new : RootStates) (w : WritesMade parts tag result updated old new)
    (moments : HasMoments old.folder) (whole : HasWholeTree old.folder) (later : HasWholeTree new.folder) where
  -- the image with the tree that was read
  of_tree : (held : Contents) (c : FolderContent) → is_image parts.scope ≡ false → old.folder.contents ≡ Some c → w.image.tree ≡ c.now
      → update_outcome parts.scope held w.image ≡ Writes → w.plan ≡ links_in parts.scope held w.image.tree w.image.stamps
      → Repairs parts.scope held (image_with c.now w.makes.loads.aux) old.folder new.folder
  of_tree held c none known tree_is writes plan =
      let image : w.image ≡ image_with c.now w.makes.loads.aux = w.makes.loads.is ∙ ap (λ (t : Nodes). image_with t w.makes.loads.aux) tree_is in
      subst (λ (s : Loaded). Repairs parts.scope held s old.folder new.folder) image
      (repairs parts.scope none held w.image w.makes.loads.aux w.plan parts.links tag (files_for parts w.texts) result old.folder (states w.folder w.disk) (image_states new) c
      (ap (λ (s : Loaded). s.stamps) w.makes.loads.is) known tree_is writes plan w.makes.loads.tree_is.reads.keeps moments whole later w.written)

  pub repairs_root : RepairsRoot parts old new
  repairs_root none = by old.store.held old.folder.contents refl w.makes.texts_are.plan_is w.makes.writes w.makes.loads.tree_is.tree
    where
      by : (known : Option Contents) (a : Option FolderContent) → old.folder.contents ≡ a → IfKnown known (λ held. w.plan ≡ links_in parts.scope held w.image.tree w.image.stamps)
          → IfKnown known (λ held. update_outcome parts.scope held w.image ≡ Writes) → IfKnown a (λ c. w.image.tree ≡ c.now)
          → IfKnown known (λ held. IfKnown a (λ before. IfAux parts.aux old.disk.contents (λ aux. Repairs parts.scope held (image_with before.now aux) old.folder new.folder)))
      by None a e plan writes tree = tt
      by (Some held) None e plan writes tree = tt
      by (Some held) (Some c) e plan writes tree =
          if_aux parts.aux w.makes.loads.aux old.disk w.disk (λ aux. Repairs parts.scope held (image_with c.now aux) old.folder new.folder) w.makes.loads.aux_is
          (of_tree held c none e tree writes plan)
