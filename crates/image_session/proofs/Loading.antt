-- The loading of an image as a whole, from the slots that are read and the result built from them.
use Rattle.std.proofs.Common.{◌≡◌, Bool, true, false, Option, Some, None, Result, Ok, Err, ap, sym, subst}
use Rattle.std.proofs.lemmas.Bool.{false≢true}
use Rattle.tree_face.specs.Disk.{Content, DiskContent, DiskState}
use Rattle.tree_face.specs.Known.{IfKnown}
use Rattle.image_session.proofs.Readings.{anyway}
use Rattle.image_session.proofs.ReadSlots.{gave_up}
use Rattle.image_session.specs.Faults.{of_slot}
use Rattle.image_session.specs.Manifest.{Manifest, Empty, Faulty, HasTree, manifest_of}
use Rattle.image_session.specs.Reading.{says}
use Rattle.image_session.specs.Session.{IsImageOf, IsLoad, IsLoaded, Loaded, Loads, LoadsFrom, ReadsBoth, image_with}
use Rattle.image_session.specs.declared.fault.LoadFault.{LoadFault}
use Rattle.image_session.specs.declared.fault.LoadFault.TheVariants as faults
use Rattle.image_session.specs.declared.fault.SlotFault.{SlotFault}
use Rattle.image_session.specs.declared.fault.SlotFault.TheVariants as slot_faults
use Rattle.image_session.specs.declared.reading.Stored.{Stored}
use Rattle.image_session.specs.declared.reading.Stored.TheVariants as stored
use Rattle.image_session.specs.declared.reading.TreeSource.{TreeSource}
use Rattle.image_session.specs.declared.reading.TreeSource.TheVariants as sources

abbrev text_of : Stored → Content
text_of (stored.Manifest text) = text

abbrev has_tree : Manifest → Bool
has_tree (HasTree tree) = true
has_tree (Faulty fault) = false
has_tree Empty = false

is_loaded : (contents : Option DiskContent) (manifest aux : Content) (loaded : Loaded) → IfKnown contents (λ c. c.now.manifest ≡ manifest) → IfKnown contents (λ c. c.now.aux ≡ aux)
    → manifest_of manifest ≡ HasTree loaded.tree → loaded ≡ image_with loaded.tree aux → IsLoaded contents loaded
is_loaded contents None aux loaded m a reads is = absurd (false≢true (ap has_tree reads))
is_loaded None (Some text) aux loaded m a reads is = record { text = text; aux = aux; in_slots = tt; reads = reads; is = is }
is_loaded (Some c) (Some text) aux loaded m a reads is = record { text = text; aux = aux; in_slots = (m, a); reads = reads; is = is }

-- if the contents are known, the text that was read is the slot's content
known : (contents : Option DiskContent) (text : Content) (result : Result Loaded LoadFault) → IfKnown contents (λ c. stored.Manifest c.now.manifest ≡ stored.Manifest text)
    → IsLoad (manifest_of text) result → IfKnown contents (λ c. IsLoad (manifest_of c.now.manifest) result)
known None text result there is = tt
known (Some c) text result there is = subst (λ (s : Stored). IsLoad (says s) result) (sym there) is

in_slot : (contents : Option DiskContent) (text : Content) → IfKnown contents (λ c. stored.Manifest c.now.manifest ≡ stored.Manifest text) → IfKnown contents (λ c. c.now.manifest ≡ text)
in_slot None text there = tt
in_slot (Some c) text there = ap text_of there

-- a slot can't be read
pub unloaded : (source : TreeSource) (fault : SlotFault) (a b : DiskState) → ReadsBoth source (Err fault) a b → LoadsFrom source (Err (of_slot fault)) a b
unloaded sources.Manifest (slot_faults.DiskFailed slot) a b reads = record { answers = anyway a.contents; loaded = tt; fails = reads.fails; reads = reads.reads }
unloaded sources.Manifest slot_faults.NoMemory a b reads = record { answers = anyway a.contents; loaded = tt; fails = tt; reads = reads.reads }

module _ (a b : DiskState) (aux : Content) where
  -- the texts were read
  loads : (text : Content) (result : Result Loaded LoadFault) → ReadsBoth sources.Manifest (Ok (record { stored = stored.Manifest text; aux = aux })) a b
      → IsImageOf (manifest_of text) aux result → Loads result a b
  loads text (Ok loaded) reads of = record {
    answers = known a.contents text (Ok loaded) reads.stored of.tree;
    loaded = is_loaded a.contents text aux loaded (in_slot a.contents text reads.stored) reads.aux of.tree of.image;
    fails = tt;
    reads = reads.reads;
  }
  loads text (Err faults.NoManifest) reads of = record { answers = known a.contents text (Err faults.NoManifest) reads.stored of.tree; loaded = tt; fails = tt; reads = reads.reads }
  loads text (Err (faults.BadManifest fault)) reads of =
      record { answers = known a.contents text (Err (faults.BadManifest fault)) reads.stored of.tree; loaded = tt; fails = tt; reads = reads.reads }
  loads text (Err faults.NoMemory) reads of = record { answers = anyway a.contents; loaded = tt; fails = tt; reads = gave_up _ a b reads.reads }
  loads text (Err (faults.DiskFailed slot)) reads of = absurd of.no_disk

  pub loads_from : (source : TreeSource) (held : Stored) (result : Result Loaded LoadFault) → ReadsBoth source (Ok (record { stored = held; aux = aux })) a b
      → IsImageOf (says held) aux result → LoadsFrom source result a b
  loads_from sources.Manifest (stored.Manifest text) result reads of = loads text result reads of
