-- Why a command that only asks a directory has no answer, and the status of each reason.
use Rattle.std.specs.Prelude.{◌≡◌}
use Rattle.asking_runs.specs.Faults.{list_no_usage, of_list}
use Rattle.command_status.specs.declared.status.Status.{Status}
use Rattle.command_status.specs.declared.status.Status.TheVariants.{Usage}
use Rattle.image_session.specs.declared.fault.SlotFault.TheVariants as slots
use Rattle.root_asking.specs.declared.fault.ReadFault.{ReadFault}
use Rattle.root_asking.specs.declared.fault.ReadFault.TheVariants as reading
use Rattle.root_asking.specs.declared.fault.RootListFault.{RootListFault}
use Rattle.root_asking.specs.declared.fault.RootListFault.TheVariants as faults
use Rattle.root_tree.specs.declared.fault.TreeRead.TheVariants as trees
use Rattle.root_update.specs.Faults.{of_root}
use Rattle.root_update.specs.declared.fault.RootFault.TheVariants as roots

-- the same as those of an update of a directory
abbrev pub of_read : ReadFault → Status
of_read (reading.Tree fault) = of_root (roots.Tree fault)
of_read (reading.Cache fault) = of_root (roots.Slot fault)

abbrev pub of_root_list : RootListFault → Status
of_root_list (faults.Read fault) = of_read fault
of_root_list (faults.List fault) = of_list fault

-- ---- no reason has the status of invalid arguments

pub read_no_usage : (fault : ReadFault) → of_read fault ≡ Usage → ⊥
read_no_usage (reading.Tree (trees.Failed at)) e = absurd (cc)
read_no_usage (reading.Tree trees.TooLarge) e = absurd (cc)
read_no_usage (reading.Tree trees.NoMemory) e = absurd (cc)
read_no_usage (reading.Cache (slots.DiskFailed slot)) e = absurd (cc)
read_no_usage (reading.Cache slots.NoMemory) e = absurd (cc)

pub root_list_no_usage : (fault : RootListFault) → of_root_list fault ≡ Usage → ⊥
root_list_no_usage (faults.Read fault) e = read_no_usage fault e
root_list_no_usage (faults.List fault) e = list_no_usage fault e
