-- A cache in terms of its list of strings.
use Rattle.std.specs.Prelude.{ℕ, ◌+◌, ◌*◌, ◌++◌, List, [], length, flat_map, slice_index_or}
use Rattle.byteorder.specs.Endian.{little_bytes}
use Rattle.cache_layout.specs.Layout.{header_size, entry_size}
use Rattle.lib_types.specs.declared.entry.Entry.{Entry}
use Rattle.string_pool.specs.InOrder.{Strings}
use Rattle.string_pool.specs.SharedEnds.{shared_place, shared_table}
use Rattle.cache_writer.specs.CacheText.{header, entry_bytes, padding, directory, name_bytes, generator}

-- the offset of the string with this number
unfoldable pub offset_bytes : Strings → ℕ → List ℕ
offset_bytes strings number = little_bytes 4 (shared_place strings (slice_index_or strings.texts number []))

-- the bytes of a file with these strings, hwcaps names and entries
unfoldable pub joined : Strings → List (List ℕ) → List Entry → List ℕ
joined strings names entries =
    let bytes = shared_table strings.texts in
    let end = header_size + entry_size * length entries + length bytes in
    let start = end + length (padding end) in
    header (length entries) (length bytes) start
    ++ flat_map (entry_bytes (shared_place strings) names) entries
    ++ bytes
    ++ padding end
    ++ directory start (length names)
    ++ flat_map (name_bytes (shared_place strings)) names
    ++ generator
