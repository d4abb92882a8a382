-- The content of the Manifest slot (the manifest file).
use Rattle.std.specs.Prelude.{ℕ, List, Option, Some, None, Result, Ok, Err}
use Rattle.image_tree.specs.Tree.{Nodes}
use Rattle.mtree_manifest.specs.Manifest.{outcome}
use Rattle.mtree_manifest.specs.declared.fault.ManifestFault.{ManifestFault}

pub data Manifest : Type 0 where
  -- the slot is empty
  Empty : Manifest
  -- the text isn't the manifest of a tree, and this is its first error
  Faulty : ManifestFault → Manifest
  -- the text is the manifest of this tree
  HasTree : Nodes → Manifest

abbrev pub manifest_by : Result Nodes ManifestFault → Manifest
manifest_by (Err fault) = Faulty fault
manifest_by (Ok tree) = HasTree tree

abbrev pub manifest_of : Option (List ℕ) → Manifest
manifest_of None = Empty
manifest_of (Some text) = manifest_by (outcome text)
