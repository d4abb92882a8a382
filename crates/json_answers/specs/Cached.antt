-- A cache as a JSON value. The members of an object are in the order of their names.
use Rattle.std.specs.Prelude.{ℕ, List, map, codes, Option, Some, None}
use Rattle.std.specs.Int.{cast_unsigned, w32}
use Rattle.lib_types.specs.Abi.{abi_of_flags, row_of}
use Rattle.lib_types.specs.declared.abi.Abi.{Abi}
use Rattle.cache_reader.specs.Cache.{CachedEntry, generator, read}
use Rattle.serde_json.specs.Data.{Data, null, number, unsigned, array, object, member, no_members}
use Rattle.serde_json.specs.View.{items_of}
use Rattle.json_texts.specs.Texts.{bytes_data, optional_data}

-- the word of the ABI, or null
abbrev pub abi_data : Option Abi → Data
abi_data None = null
abi_data (Some abi) = bytes_data (row_of abi).word

-- the hwcap, or null if it is the index of a name
abbrev pub hwcap_data : ℕ → Option (List ℕ) → Data
hwcap_data bits (Some name) = null
hwcap_data bits None = number (unsigned bits)

abbrev pub entry_data : CachedEntry → Data
entry_data e = object
    (member (codes "abi") (abi_data (abi_of_flags e.flags))
    (member (codes "flags") (number (unsigned (cast_unsigned w32 e.flags)))
    (member (codes "hwcap") (hwcap_data e.hwcap e.cap)
    (member (codes "hwcaps_name") (optional_data e.cap)
    (member (codes "name") (bytes_data e.name)
    (member (codes "path") (bytes_data e.path) no_members))))))

-- a cache file with this name: its entries in order, and its generator's text or null
abbrev pub cache_data : List ℕ → List ℕ → Data
cache_data name bytes = object
    (member (codes "cache") (bytes_data name)
    (member (codes "entries") (array (items_of (map entry_data (read bytes))))
    (member (codes "generator") (optional_data (generator bytes)) no_members)))
