-- Why an image isn't updated, converted from the errors of its parts.
use Rattle.std.specs.Prelude.{Bool, true, false}
use Rattle.library_search.specs.declared.fault.FindFault.{FindFault}
use Rattle.library_search.specs.declared.fault.FindFault.TheVariants as finding
use Rattle.cache_entries.specs.declared.fault.EntryFault.{EntryFault}
use Rattle.cache_entries.specs.declared.fault.EntryFault.TheVariants as entering
use Rattle.ldconfig_core.specs.declared.fault.UpdateFault.{UpdateFault}
use Rattle.ldconfig_core.specs.declared.fault.UpdateFault.TheVariants as updating

-- the error of searching the image
abbrev pub of_finding : FindFault → UpdateFault
of_finding finding.StoreFault = updating.StoreFault
of_finding (finding.TooLarge nodes) = updating.TooLarge nodes 0
of_finding finding.NoMemory = updating.NoMemory

-- too many entries, or out of memory
abbrev pub of_entries : EntryFault → UpdateFault
of_entries (entering.TooMany count) = updating.TooMany count
of_entries entering.NoMemory = updating.NoMemory

-- an error before the first writing call
abbrev pub is_of_preparing : UpdateFault → Bool
is_of_preparing (updating.DiskFault fault) = false
is_of_preparing _ = true

-- too large, or out of memory
abbrev pub is_size_fault : UpdateFault → Bool
is_size_fault (updating.TooLarge nodes bytes) = true
is_size_fault updating.NoMemory = true
is_size_fault _ = false

-- a too long manifest, too many entries, or out of memory
abbrev pub is_of_making : UpdateFault → Bool
is_of_making (updating.TooLarge nodes bytes) = true
is_of_making (updating.TooMany count) = true
is_of_making updating.NoMemory = true
is_of_making _ = false
