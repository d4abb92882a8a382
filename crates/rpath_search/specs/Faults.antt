-- How a search ends.
use Rattle.std.specs.Prelude.{Result, Ok, Err}
use Rattle.tree_face.specs.StoreUse.{Ending, Complete, DeviceFailed, GaveUp}
use Rattle.rpath_search.specs.declared.fault.SearchFault.{SearchFault}
use Rattle.rpath_search.specs.declared.fault.SearchFault.TheVariants.{StoreFault, NoMemory}

abbrev pub search_ending : {A : Type 0} → Result A SearchFault → Ending
search_ending (Ok value) = Complete
search_ending (Err StoreFault) = DeviceFailed
search_ending (Err NoMemory) = GaveUp
