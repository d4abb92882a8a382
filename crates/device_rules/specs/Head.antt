-- The number of entries in the head of a cache, and its strings (glibc's dl-cache.h, `struct cache_file_new`: nlibs at 20, len_strings
-- at 24).
use Rattle.std.specs.Prelude.{ℕ, ◌&&◌, ◌+◌, ◌*◌, List, Option, Some, None, drop, length, nat_eq, nat_le, take, if◌then◌else◌}
use Rattle.std.specs.List.{starts_with}
use Rattle.std.specs.Option.{option_and_then}
use Rattle.cache_layout.specs.Layout.{entry_size, header_size, magic}
use Rattle.lib_types.specs.Bytes.{field}

abbrev pub entries_in : List ℕ → Option ℕ
entries_in bytes = if nat_le 24 (length bytes) && starts_with nat_eq bytes magic then Some (field bytes 20 4) else None

-- these many bytes at this offset, if all are there
abbrev pub part_at : ℕ → ℕ → List ℕ → Option (List ℕ)
part_at start count bytes = if nat_le (start + count) (length bytes) then Some (take count (drop start bytes)) else None

-- The strings come after the header and the entries.
abbrev pub strings_in : List ℕ → Option (List ℕ)
strings_in bytes = option_and_then (λ entries. part_at (header_size + entry_size * entries) (field bytes 24 4) bytes) (entries_in bytes)
