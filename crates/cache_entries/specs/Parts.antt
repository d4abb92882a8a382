-- What private functions return: errors by the number of entries.
use Rattle.std.specs.Prelude.{◌≡◌, ◌<◌, ◌≤◌, ℕ}
use Rattle.cache_layout.specs.declared.limits.TheConstants.{ENTRIES_MAX}
use Rattle.cache_entries.specs.declared.fault.EntryFault.{EntryFault}
use Rattle.cache_entries.specs.declared.fault.EntryFault.TheVariants.{TooMany, NoMemory}

-- There are too many entries and this is their number. Or their number is allowed, but memory has run out.
abbrev pub IsCountFault : ℕ → EntryFault → Type 0
IsCountFault count (TooMany n) = (n ≡ count) × (ENTRIES_MAX < count)
IsCountFault count NoMemory = count ≤ ENTRIES_MAX
