-- A loaded image.
use Rattle.std.specs.Prelude.{◌≡◌, ◌∷◌, ◌++◌, ℕ, Bool, false, List, [], Option, Some, Result, IfOk}
use Rattle.std.specs.Result.{result_map_both}
use Rattle.tree_face.specs.declared.disk.Slot.TheVariants as slots
use Rattle.tree_face.specs.Disk.{Content, DiskContent, DiskState}
use Rattle.tree_face.specs.DiskUse.{ReadsOnly}
use Rattle.tree_face.specs.Known.{IfKnown}
use Rattle.aux_cache.specs.declared.stamps.Stamp.{Stamp}
use Rattle.image_tree.specs.Tree.{Nodes}
use Rattle.image_session.specs.Aux.{damage_of_slot, stamps_of_slot}
use Rattle.image_session.specs.Manifest.{Manifest, HasTree, manifest_of}
use Rattle.image_session.specs.Reading.{FailsAt, IfDiskFailed, IfSlotFailed, IsTreeOf, held_by, load_ending, slot_ending, slots_of}
use Rattle.image_session.specs.declared.fault.LoadFault.{LoadFault}
use Rattle.image_session.specs.declared.fault.SlotFault.{SlotFault}
use Rattle.image_session.specs.declared.reading.TreeSource.{TreeSource}
use Rattle.image_session.specs.declared.reading.TreeSource.TheVariants as sources
use Rattle.image_session.specs.declared.session.Readings.{Readings}

-- the part of an image that is kept between loading and updates
pub record Loaded : Type 0 where
  pub tree : Nodes
  -- the stamps of the auxiliary cache, by file identity
  pub stamps : List Stamp
  -- whether the tree was edited since it was loaded or updated
  pub edited : Bool
  -- the offset at which the auxiliary cache was corrupt when it was loaded, until an update reports it
  pub damaged : Option ℕ

-- the image of this tree after loading with this Aux slot, before any edit
abbrev pub image_with : Nodes → Content → Loaded
image_with tree aux = record {
  tree = tree;
  stamps = stamps_of_slot aux;
  edited = false;
  damaged = damage_of_slot aux;
}

-- the image comes from a manifest's text and an Aux slot; if the disk's contents are known, they are the disk's
pub record IsLoaded (contents : Option DiskContent) (loaded : Loaded) : Type 0 where
  pub text : List ℕ
  pub aux : Content
  pub in_slots : IfKnown contents (λ content. (content.now.manifest ≡ Some text) × (content.now.aux ≡ aux))
  pub reads : manifest_of (Some text) ≡ HasTree loaded.tree
  pub is : loaded ≡ image_with loaded.tree aux

-- ---- loading

-- the tree of the loaded image, or why there is none
abbrev pub IsLoad : Manifest → Result Loaded LoadFault → Type 0
IsLoad manifest result = IsTreeOf manifest (result_map_both (λ loaded. loaded.tree) (λ fault. fault) result)

-- The Manifest slot and then the Aux slot are read, each once. No other slot is read. The manifest is parsed only after both slots
-- are read.
pub record Loads (result : Result Loaded LoadFault) (old new : DiskState) : Type 0 where
  pub answers : IfKnown old.contents (λ content. IsLoad (manifest_of content.now.manifest) result)
  pub loaded : IfOk result (IsLoaded old.contents)
  pub fails : IfDiskFailed result (FailsAt (slots.Manifest ∷ slots.Aux ∷ []) old new)
  pub reads : ReadsOnly (slots.Manifest ∷ slots.Aux ∷ []) (load_ending result) old new

-- loads an image whose tree comes from this source
abbrev pub LoadsFrom : TreeSource → Result Loaded LoadFault → DiskState → DiskState → Type 0
LoadsFrom sources.Manifest = Loads

-- ---- what private functions do

-- the source is read, then the Aux slot
pub record ReadsBoth (source : TreeSource) (result : Result Readings SlotFault) (old new : DiskState) : Type 0 where
  pub stored : IfOk result (λ readings. IfKnown old.contents (λ known. held_by source known ≡ readings.stored))
  pub aux : IfOk result (λ readings. IfKnown old.contents (λ known. known.now.aux ≡ readings.aux))
  pub fails : IfSlotFailed result (FailsAt (slots_of source ++ slots.Aux ∷ []) old new)
  pub reads : ReadsOnly (slots_of source ++ slots.Aux ∷ []) (slot_ending result) old new

-- the image from the texts that were read, or why there is none
pub record IsImageOf (manifest : Manifest) (aux : Content) (result : Result Loaded LoadFault) : Type 0 where
  pub tree : IsLoad manifest result
  pub image : IfOk result (λ loaded. loaded ≡ image_with loaded.tree aux)
  pub no_disk : IfDiskFailed result (λ slot. ⊥)
