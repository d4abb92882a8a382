-- How a call that reads conf files ends.
use Rattle.std.specs.Prelude.{Result, Ok, Err}
use Rattle.conf_views.specs.declared.fault.ViewFault.{ViewFault}
use Rattle.conf_views.specs.declared.fault.ViewFault.TheVariants as view
use Rattle.tree_face.specs.StoreUse.{Ending, Complete, DeviceFailed, GaveUp}
use Rattle.ldso_conf.specs.declared.fault.ConfFault.{ConfFault}
use Rattle.ldso_conf.specs.declared.fault.ConfFault.TheVariants.{StoreFault, NoMemory}
use Rattle.ldso_conf.specs.declared.fault.ReadFault.{ReadFault}
use Rattle.ldso_conf.specs.declared.fault.ReadFault.TheVariants as read

abbrev pub ending_by : ConfFault → Ending
ending_by StoreFault = DeviceFailed
ending_by NoMemory = GaveUp

abbrev pub ending_of : {A : Type 0} → Result A ConfFault → Ending
ending_of (Ok value) = Complete
ending_of (Err fault) = ending_by fault

-- ---- in a view of a tree

abbrev pub fault_of : ViewFault → ReadFault
fault_of view.Unseen = read.Unseen
fault_of view.NoMemory = read.NoMemory

-- if a view doesn't answer, the store has not failed
abbrev pub read_ending_by : ReadFault → Ending
read_ending_by read.StoreFault = DeviceFailed
read_ending_by read.Unseen = GaveUp
read_ending_by read.NoMemory = GaveUp

abbrev pub read_ending : {A : Type 0} → Result A ReadFault → Ending
read_ending (Ok value) = Complete
read_ending (Err fault) = read_ending_by fault

-- What was done since a view, if the reading stopped: the view didn't answer, or something else failed after calls that answered.
abbrev pub StopsBy : {V : Type 0} → (V → V → Type 0) → (ViewFault → V → V → Type 0) → ReadFault → V → V → Type 0
StopsBy since fails read.StoreFault start now = since start now
StopsBy since fails read.Unseen start now = fails view.Unseen start now
StopsBy since fails read.NoMemory start now = fails view.NoMemory start now
