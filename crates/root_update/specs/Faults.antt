-- The statuses of faults of an update of a directory.
use Rattle.std.specs.Prelude.{◌+◌}
use Rattle.command_status.specs.Status.{of_update}
use Rattle.command_status.specs.declared.status.Status.{Status}
use Rattle.command_status.specs.declared.status.Status.TheVariants as statuses
use Rattle.image_session.specs.declared.fault.SlotFault.TheVariants as slots
use Rattle.image_tree.specs.declared.tree.TheConstants.{NODES_MAX}
use Rattle.root_tree.specs.declared.fault.TreeRead.{TreeRead}
use Rattle.root_tree.specs.declared.fault.TreeRead.TheVariants as reads
use Rattle.root_update.specs.declared.fault.RootFault.{RootFault}
use Rattle.root_update.specs.declared.fault.RootFault.TheVariants.{Tree, Update, Slot, Write}

abbrev pub of_tree : TreeRead → Status
of_tree (reads.Failed at) = statuses.StoreFault
of_tree reads.TooLarge = statuses.TooLarge (NODES_MAX + 1) 0
of_tree reads.NoMemory = statuses.NoMemory

abbrev pub of_root : RootFault → Status
of_root (Tree fault) = of_tree fault
of_root (Update fault) = of_update fault
of_root (Slot (slots.DiskFailed slot)) = statuses.DiskFault
of_root (Slot slots.NoMemory) = statuses.NoMemory
of_root (Write fault) = statuses.DiskFault
