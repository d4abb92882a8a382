-- Facts about the image that was read, as facts about the directory.
use Rattle.std.proofs.Common.{◌≡◌, ◌∙◌, Option, Some, None, Err, ap, subst}
use Rattle.image_session.specs.Reading.{ReadsContent}
use Rattle.image_session.specs.Session.{Loaded, image_with}
use Rattle.image_session.specs.declared.fault.SlotFault.{SlotFault}
use Rattle.image_tree.specs.Tree.{Nodes}
use Rattle.root_answers.specs.Run.{IfDirectory}
use Rattle.root_folder.specs.Folder.{FolderContent}
use Rattle.root_update.specs.Loading.{FailsToUseAux, IfAux, LoadsRoot}
use Rattle.root_update.specs.Made.{RootStates, image_states}
use Rattle.root_update.specs.declared.parts.AuxUse.{AuxUse}
use Rattle.root_update.specs.declared.parts.AuxUse.TheVariants.{Unused, Replaced, Updated}
use Rattle.root_update.specs.declared.parts.RootParts.{RootParts}
use Rattle.root_writes.specs.Writing.{States}
use Rattle.tree_face.proofs.Known.{known_then}
use Rattle.tree_face.specs.Disk.{Content, DiskContent, DiskState}
use Rattle.tree_face.specs.Known.{IfKnown}
use Rattle.tree_face.specs.Store.{Contents}
use Rattle.tree_face.specs.declared.disk.Slot.TheVariants.{Aux}
use Rattle.root_update.proofs.Loaded.{if_aux}

-- ---- the auxiliary cache

pub unused : (how : AuxUse) (fault : SlotFault) (a b : DiskState) → FailsToUseAux how fault a b → ReadsContent Aux (Err fault) a b
unused Unused fault a b is = absurd is
unused Replaced fault a b is = absurd is
unused Updated fault a b is = is

pub aux_then : (how : AuxUse) (known : Option DiskContent) (P Q : Content → Type 0) → ((c : Content) → P c → Q c) → IfAux how known P → IfAux how known Q
aux_then Unused known P Q f h = f None h
aux_then Replaced known P Q f h = f None h
aux_then Updated known P Q f h = known_then known (λ c. P c.now.aux) (λ c. Q c.now.aux) (λ c. f c.now.aux) h

any_known : (known : Option DiskContent) (P : DiskContent → Type 0) → ((c : DiskContent) → P c) → IfKnown known P
any_known None P f = tt
any_known (Some c) P f = f c

pub any_aux : (how : AuxUse) (known : Option DiskContent) (P : Content → Type 0) → ((c : Content) → P c) → IfAux how known P
any_aux Unused known P f = f None
any_aux Replaced known P f = f None
any_aux Updated known P f = any_known known (λ c. P c.now.aux) (λ c. f c.now.aux)

both_known : (known : Option DiskContent) (P Q R : DiskContent → Type 0) → ((c : DiskContent) → P c → Q c → R c) → IfKnown known P → IfKnown known Q → IfKnown known R
both_known None P Q R f p q = tt
both_known (Some c) P Q R f p q = f c p q

both_aux : (how : AuxUse) (known : Option DiskContent) (P Q R : Content → Type 0) → ((c : Content) → P c → Q c → R c) → IfAux how known P → IfAux how known Q → IfAux how known R
both_aux Unused known P Q R f p q = f None p q
both_aux Replaced known P Q R f p q = f None p q
both_aux Updated known P Q R f p q = both_known known (λ c. P c.now.aux) (λ c. Q c.now.aux) (λ c. R c.now.aux) (λ c. f c.now.aux) p q

-- ---- the directory

module _ (parts : RootParts) (s : RootStates) where
  -- a fact that holds of every image
  pub any_directory : (P : Contents → Loaded → Type 0) → ((held : Contents) (image : Loaded) → P held image) → IfDirectory parts s P
  any_directory P f = by s.store.held s.folder.contents
    where
      by : (known : Option Contents) (a : Option FolderContent) → IfKnown known (λ held. IfKnown a (λ dir. IfAux parts.aux s.disk.contents (λ aux. P held (image_with dir.now aux))))
      by None a = tt
      by (Some held) None = tt
      by (Some held) (Some dir) = any_aux parts.aux s.disk.contents (λ aux. P held (image_with dir.now aux)) (λ aux. f held (image_with dir.now aux))

  -- two facts of the same image
  pub both : (P Q R : Contents → Loaded → Type 0) → ((held : Contents) (image : Loaded) → P held image → Q held image → R held image)
      → IfDirectory parts s P → IfDirectory parts s Q → IfDirectory parts s R
  both P Q R f = by s.store.held s.folder.contents
    where
      by : (known : Option Contents) (a : Option FolderContent)
          → IfKnown known (λ held. IfKnown a (λ dir. IfAux parts.aux s.disk.contents (λ aux. P held (image_with dir.now aux))))
          → IfKnown known (λ held. IfKnown a (λ dir. IfAux parts.aux s.disk.contents (λ aux. Q held (image_with dir.now aux))))
          → IfKnown known (λ held. IfKnown a (λ dir. IfAux parts.aux s.disk.contents (λ aux. R held (image_with dir.now aux))))
      by None a p q = tt
      by (Some held) None p q = tt
      by (Some held) (Some dir) p q =
          both_aux parts.aux s.disk.contents (λ aux. P held (image_with dir.now aux)) (λ aux. Q held (image_with dir.now aux)) (λ aux. R held (image_with dir.now aux))
          (λ aux. f held (image_with dir.now aux)) p q

  -- a fact of the image that was read
  pub of_image : (P : Contents → Loaded → Type 0) (mid : States) → IfKnown s.store.held (λ held. (image : Loaded) × (LoadsRoot parts.aux image (image_states s) mid × P held image))
      → IfDirectory parts s P
  of_image P mid fact = by s.store.held fact
    where
      is_image : (image : Loaded) (dir : FolderContent) (loads : LoadsRoot parts.aux image (image_states s) mid) → image.tree ≡ dir.now → image ≡ image_with dir.now loads.aux
      is_image image dir loads tree = loads.is ∙ ap (λ (t : Nodes). image_with t loads.aux) tree

      by_dir : (held : Contents) (a : Option FolderContent) (image : Loaded) (loads : LoadsRoot parts.aux image (image_states s) mid) → IfKnown a (λ c. image.tree ≡ c.now) → P held image
          → IfKnown a (λ dir. IfAux parts.aux s.disk.contents (λ aux. P held (image_with dir.now aux)))
      by_dir held None image loads tree p = tt
      by_dir held (Some dir) image loads tree p =
          if_aux parts.aux loads.aux s.disk mid.disk (λ aux. P held (image_with dir.now aux)) loads.aux_is (subst (λ (i : Loaded). P held i) (is_image image dir loads tree) p)

      by : (known : Option Contents) → IfKnown known (λ held. (image : Loaded) × (LoadsRoot parts.aux image (image_states s) mid × P held image))
          → IfKnown known (λ held. IfKnown s.folder.contents (λ dir. IfAux parts.aux s.disk.contents (λ aux. P held (image_with dir.now aux))))
      by None p = tt
      by (Some held) p = by_dir held s.folder.contents p.0 p.1.0 p.1.0.tree_is.tree p.1.1

  pub of_one : (P : Contents → Loaded → Type 0) (mid : States) (image : Loaded) → LoadsRoot parts.aux image (image_states s) mid → IfKnown s.store.held (λ held. P held image) → IfDirectory parts s P
  of_one P mid image loads fact =
      of_image P mid (known_then s.store.held (λ held. P held image) (λ held. (i : Loaded) × (LoadsRoot parts.aux i (image_states s) mid × P held i)) (λ held p. (image, (loads, p))) fact)
