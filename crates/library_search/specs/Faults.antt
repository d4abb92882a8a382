-- Why the search of an image fails, converted from the errors of its parts.
use Rattle.std.specs.Prelude.{Bool, true, false, Result, Ok, Err}
use Rattle.elf_dynamic.specs.declared.fault.AnalyseFault.{AnalyseFault}
use Rattle.elf_dynamic.specs.declared.fault.AnalyseFault.TheVariants as reading
use Rattle.ldso_conf.specs.declared.fault.ConfFault.{ConfFault}
use Rattle.ldso_conf.specs.declared.fault.ConfFault.TheVariants as conf
use Rattle.soname_links.specs.declared.kinds.ApplyFault.{ApplyFault}
use Rattle.soname_links.specs.declared.kinds.ApplyFault.TheVariants as applying
use Rattle.tree_face.specs.StoreUse.{Ending, Complete, DeviceFailed, GaveUp}
use Rattle.library_search.specs.declared.fault.FindFault.{FindFault}
use Rattle.library_search.specs.declared.fault.FindFault.TheVariants.{StoreFault, TooLarge, NoMemory}

-- the error of reading a conf file
abbrev pub of_conf : ConfFault → FindFault
of_conf conf.StoreFault = StoreFault
of_conf conf.NoMemory = NoMemory

-- the error of reading a library file
abbrev pub of_reading : AnalyseFault → FindFault
of_reading reading.StoreFault = StoreFault
of_reading reading.NoMemory = NoMemory

-- too many nodes, or out of memory
abbrev pub of_apply : ApplyFault → FindFault
of_apply (applying.TooLarge nodes) = TooLarge nodes
of_apply applying.NoMemory = NoMemory

-- a file can't be read, or out of memory
abbrev pub is_store_fault : FindFault → Bool
is_store_fault StoreFault = true
is_store_fault NoMemory = true
is_store_fault (TooLarge nodes) = false

-- how the reading of files ended
abbrev pub find_ending : {A : Type 0} → Result A FindFault → Ending
find_ending (Ok found) = Complete
find_ending (Err StoreFault) = DeviceFailed
find_ending (Err (TooLarge nodes)) = Complete
find_ending (Err NoMemory) = GaveUp
