-- Why a sample has no text.
use Rattle.command_status.specs.declared.status.Status.{Status}
use Rattle.command_status.specs.declared.status.Status.TheVariants as statuses
use Rattle.ldconfig_core.specs.declared.fault.UpdateFault.{UpdateFault}
use Rattle.ldconfig_core.specs.declared.fault.UpdateFault.TheVariants as updating
use Rattle.sample_runs.specs.declared.fault.SampleFault.{SampleFault}
use Rattle.sample_runs.specs.declared.fault.SampleFault.TheVariants.{DiskFault, NoMemory, StoreFault}

-- an image that is too large means out of memory
abbrev pub of_update : UpdateFault → SampleFault
of_update updating.StoreFault = StoreFault
of_update (updating.DiskFault fault) = DiskFault
of_update (updating.TooLarge nodes bytes) = NoMemory
of_update (updating.TooMany count) = NoMemory
of_update updating.NoMemory = NoMemory

-- the status of a command that ends with this fault
abbrev pub of_sample : SampleFault → Status
of_sample StoreFault = statuses.StoreFault
of_sample DiskFault = statuses.DiskFault
of_sample NoMemory = statuses.NoMemory
