-- Why a command that only asks has no answer, and the status of each reason.
use Rattle.std.specs.Prelude.{◌≡◌}
use Rattle.command_status.specs.Status.{of_load, of_resolve}
use Rattle.command_status.specs.Usage.{load_no_usage, resolve_no_usage}
use Rattle.command_status.specs.declared.status.Status.{Status}
use Rattle.command_status.specs.declared.status.Status.TheVariants as statuses
use Rattle.elf_interpreter.specs.declared.fault.InterpreterFault.{InterpreterFault}
use Rattle.elf_interpreter.specs.declared.fault.InterpreterFault.TheVariants as interpreters
use Rattle.image_session.specs.declared.fault.SlotFault.{SlotFault}
use Rattle.image_session.specs.declared.fault.SlotFault.TheVariants as slot_faults
use Rattle.ldd_resolve.specs.Faults.{of_search}
use Rattle.rpath_search.specs.declared.fault.SearchFault.{SearchFault}
use Rattle.rpath_search.specs.declared.fault.SearchFault.TheVariants as searches
use Rattle.asking_runs.specs.declared.fault.CacheFault.{CacheFault}
use Rattle.asking_runs.specs.declared.fault.CacheFault.TheVariants as caches
use Rattle.asking_runs.specs.declared.fault.ListFault.{ListFault}
use Rattle.asking_runs.specs.declared.fault.ListFault.TheVariants as lists

-- a fault of the cache file
abbrev pub of_slot : SlotFault → CacheFault
of_slot (slot_faults.DiskFailed slot) = caches.DiskFailed
of_slot slot_faults.NoMemory = caches.NoMemory

-- a fault of the reading of interpreters
abbrev pub of_interpreter : InterpreterFault → SearchFault
of_interpreter interpreters.StoreFault = searches.StoreFault
of_interpreter interpreters.NoMemory = searches.NoMemory

abbrev pub of_cache : CacheFault → Status
of_cache caches.DiskFailed = statuses.DiskFault
of_cache caches.NoMemory = statuses.NoMemory
of_cache caches.NoCache = statuses.NoCache
of_cache (caches.BadCache defect) = statuses.BadCache defect

abbrev pub of_list : ListFault → Status
of_list (lists.Image fault) = of_load fault
of_list (lists.BadCache defect) = statuses.BadCache defect
of_list (lists.Search fault) = of_resolve (of_search fault)

-- ---- no reason has the status of invalid arguments

pub cache_no_usage : (fault : CacheFault) → of_cache fault ≡ statuses.Usage → ⊥
cache_no_usage caches.DiskFailed e = absurd (cc)
cache_no_usage caches.NoMemory e = absurd (cc)
cache_no_usage caches.NoCache e = absurd (cc)
cache_no_usage (caches.BadCache defect) e = absurd (cc)

pub list_no_usage : (fault : ListFault) → of_list fault ≡ statuses.Usage → ⊥
list_no_usage (lists.Image fault) e = load_no_usage fault e
list_no_usage (lists.BadCache defect) e = absurd (cc)
list_no_usage (lists.Search fault) e = resolve_no_usage (of_search fault) e
