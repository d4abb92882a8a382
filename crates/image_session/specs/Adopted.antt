-- An image whose tree comes from elsewhere than the Manifest slot.
use Rattle.std.specs.Prelude.{◌≡◌, ◌∷◌, Option, true, [], Result, IfErr, IfOk, ⊤}
use Rattle.tree_face.specs.declared.disk.Slot.TheVariants as slots
use Rattle.tree_face.specs.Disk.{Content, DiskContent, DiskState}
use Rattle.tree_face.specs.DiskUse.{ReadsOnly}
use Rattle.tree_face.specs.Known.{IfKnown}
use Rattle.image_tree.specs.Tree.{Nodes}
use Rattle.image_session.specs.Reading.{load_ending}
use Rattle.image_session.specs.Session.{Loaded, image_with}
use Rattle.image_session.specs.declared.fault.LoadFault.{LoadFault}
use Rattle.image_session.specs.declared.fault.LoadFault.TheVariants as faults

-- the image of this tree with this Aux slot, marked as edited
abbrev pub adopted_with : Nodes → Content → Loaded
adopted_with tree aux = record (image_with tree aux) { edited = true }

-- the image has this tree; if the disk's contents are known, its stamps are those of the disk's Aux slot
pub record IsAdopted (contents : Option DiskContent) (tree : Nodes) (image : Loaded) : Type 0 where
  pub aux : Content
  pub in_slot : IfKnown contents (λ content. content.now.aux ≡ aux)
  pub is : image ≡ adopted_with tree aux

-- it is refused only because the Aux slot can't be read, or because memory runs out
abbrev pub RefusesToAdopt : LoadFault → Type 0
RefusesToAdopt (faults.DiskFailed slot) = slot ≡ slots.Aux
RefusesToAdopt faults.NoMemory = ⊤
RefusesToAdopt faults.NoManifest = ⊥
RefusesToAdopt (faults.BadManifest fault) = ⊥

-- the Aux slot is read once, and no other slot
pub record Adopts (tree : Nodes) (result : Result Loaded LoadFault) (old new : DiskState) : Type 0 where
  pub image : IfOk result (IsAdopted old.contents tree)
  pub refused : IfErr result RefusesToAdopt
  pub reads : ReadsOnly (slots.Aux ∷ []) (load_ending result) old new
