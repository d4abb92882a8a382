-- The cache that a command reads.
use Rattle.std.specs.Prelude.{ℕ, List, Some, None, Result, Ok, Err}
use Rattle.image_session.specs.declared.fault.SlotFault.{SlotFault}
use Rattle.tree_face.specs.Disk.{Content}
use Rattle.asking_runs.specs.Faults.{of_slot}
use Rattle.asking_runs.specs.declared.fault.CacheFault.{CacheFault}
use Rattle.asking_runs.specs.declared.fault.CacheFault.TheVariants.{NoCache}

-- the bytes of a cache that was read, or why there are none
abbrev pub cache_in : Result Content SlotFault → Result (List ℕ) CacheFault
cache_in (Ok (Some bytes)) = Ok bytes
cache_in (Ok None) = Err NoCache
cache_in (Err fault) = Err (of_slot fault)
