-- Why layers have no trees, from the fault of one of them.
use Rattle.std.specs.Prelude.{ℕ}
use Rattle.mtree_manifest.specs.declared.fault.ManifestFault.{ManifestFault}
use Rattle.mtree_manifest.specs.declared.fault.ManifestFault.TheVariants as manifests
use Rattle.layer_trees.specs.declared.fault.LayerFault.{LayerFault}
use Rattle.layer_trees.specs.declared.fault.LayerFault.TheVariants as one
use Rattle.layer_trees.specs.declared.fault.LayersFault.{LayersFault}
use Rattle.layer_trees.specs.declared.fault.LayersFault.TheVariants as faults

-- the fault of layers of which the one with this number has this fault
abbrev pub numbered : ℕ → LayerFault → LayersFault
numbered layer one.StoreFault = faults.StoreFault
numbered layer (one.Bad fault) = faults.Bad layer fault
numbered layer one.NoMemory = faults.NoMemory

-- the fault of a manifest; out of memory stays NoMemory
abbrev pub of_manifest : ManifestFault → LayerFault
of_manifest manifests.NoMemory = one.NoMemory
of_manifest fault = one.Bad fault
