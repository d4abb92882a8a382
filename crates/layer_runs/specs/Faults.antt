-- The status of layers that make no image.
use Rattle.command_status.specs.declared.status.LayerKind.TheVariants as layer
use Rattle.command_status.specs.declared.status.Status.{Status}
use Rattle.command_status.specs.declared.status.Status.TheVariants as statuses
use Rattle.layer_trees.specs.declared.fault.LayersFault.{LayersFault}
use Rattle.layer_trees.specs.declared.fault.LayersFault.TheVariants as reading
use Rattle.layer_union.specs.declared.layers.UnionFault.{UnionFault}
use Rattle.layer_union.specs.declared.layers.UnionFault.TheVariants as joining
use Rattle.layer_runs.specs.declared.fault.ImageFault.{ImageFault}
use Rattle.layer_runs.specs.declared.fault.ImageFault.TheVariants as faults

abbrev pub of_trees : LayersFault → ImageFault
of_trees reading.StoreFault = faults.StoreFault
of_trees (reading.Bad number fault) = faults.BadLayer number (layer.Manifest fault)
of_trees reading.NoMemory = faults.NoMemory

abbrev pub of_union : UnionFault → ImageFault
of_union (joining.BadWhiteout number node) = faults.BadLayer number (layer.Whiteout node)
of_union (joining.Full number) = faults.BadLayer number layer.Full
of_union joining.NoMemory = faults.NoMemory

abbrev pub of_image : ImageFault → Status
of_image faults.StoreFault = statuses.StoreFault
of_image (faults.BadLayer number kind) = statuses.BadLayer number kind
of_image faults.NoMemory = statuses.NoMemory
