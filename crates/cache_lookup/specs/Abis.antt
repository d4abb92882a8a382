-- The ABIs of a cache's entries. That all entries have one ABI is this project's rule for a lookup that names none.
use Rattle.std.specs.Prelude.{◌≡◌, ℕ, Bool, ◌==◌, List, [], ◌∷◌, slice_index_or, Option, Some, None, if◌then◌else◌}
use Rattle.std.specs.List.{filter_map, list_all, list_any}
use Rattle.lib_types.specs.declared.abi.Abi.{Abi}
use Rattle.lib_types.specs.Abi.{abi_of_flags, flags_of}
use Rattle.cache_reader.specs.Cache.{CachedEntry}
use Rattle.cache_lookup.specs.Scan.{is_candidate}

-- the ABIs of the entries that have an ABI's flags, in order
abbrev pub abis_of : List CachedEntry → List Abi
abis_of entries = filter_map (λ e. abi_of_flags e.flags) entries

-- the two are one ABI; different ABIs have different flags
abbrev pub is_same_abi : Abi → Abi → Bool
is_same_abi abi other = flags_of other == flags_of abi

-- the first ABI, if all others are the same
abbrev pub only_abi : List Abi → Option Abi
only_abi [] = None
only_abi (abi ∷ abis) = if list_all (is_same_abi abi) abis then Some abi else None

-- the ABI of all entries that have an ABI's flags, if they have one ABI
abbrev pub common_abi : List CachedEntry → Option Abi
common_abi entries = only_abi (abis_of entries)

-- an entry has this name and this ABI
abbrev pub has_candidate : List CachedEntry → List ℕ → Abi → Bool
has_candidate entries name abi = list_any (is_candidate name abi) entries

-- ---- what private functions say

-- the entry at this index has this ABI
abbrev pub IsAbiAt : List CachedEntry → ℕ → Option Abi → Type 0
IsAbiAt entries index abi = (d : CachedEntry) → abi_of_flags (slice_index_or entries index d).flags ≡ abi

-- the common ABI of a first one, if there is one, and of these
abbrev pub common_with : Option Abi → List Abi → Option Abi
common_with None abis = only_abi abis
common_with (Some abi) abis = only_abi (abi ∷ abis)
