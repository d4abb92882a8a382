-- The bytes of a cache file, as in glibc's dl-cache.h: struct cache_file_new, struct file_entry_new for each entry, the strings, and
-- struct cache_extension with its sections. All numbers are little-endian.
use Rattle.std.specs.Prelude.{ℕ, ◌+◌, ◌-◌, ◌*◌, ◌%◌, ◌==◌, List, [], ◌∷◌, ◌++◌, length, flat_map, fold, replicate, Option, Some, None, codes, if◌then◌else◌}
use Rattle.std.specs.BTreeSet.{insert_key}
use Rattle.std.specs.Cmp.Lexicographic.{slice_cmp}
use Rattle.std.specs.List.{position_or_len}
use Rattle.std.specs.Option.{option_map_or}
use Rattle.std.specs.Ordering.{nat_cmp}
use Rattle.std.specs.Str.{bytes_eq}
use Rattle.byteorder.specs.Endian.{little_bytes}
use Rattle.lib_types.specs.declared.entry.Entry.{Entry}
use Rattle.lib_types.specs.Abi.{flags_of}
use Rattle.string_pool.specs.Distinct.{distinct}
use Rattle.string_pool.specs.SharedEnds.{shared_place, shared_table}
use Rattle.cache_layout.specs.Layout.{laid_out, magic, header_fields, header_size, little_endian, entry_fields, entry_size, named_hwcap, extension_magic, directory_fields, directory_size, section_fields, section_size, generator_tag, names_tag}

-- ---- the hwcaps names and the strings

-- the names with the hwcaps name of an entry inserted, sorted by bytes
abbrev pub with_name : List (List ℕ) → Entry → List (List ℕ)
with_name names entry = option_map_or (insert_key (slice_cmp nat_cmp) names) entry.cap names

-- the hwcaps names of the entries, each once, sorted by bytes
unfoldable pub hwcaps_names : List Entry → List (List ℕ)
hwcaps_names entries = fold with_name [] entries

-- the soname and the path of an entry
abbrev pub own_strings : Entry → List (List ℕ)
own_strings entry = entry.soname ∷ entry.path ∷ []

-- the strings of a cache, each once, in order of first use: first those of the entries, then the hwcaps names
abbrev pub strings : List Entry → List (List ℕ)
strings entries = distinct (flat_map own_strings entries ++ hwcaps_names entries)

-- the strings start after the entries
abbrev pub strings_start : List Entry → ℕ
strings_start entries = header_size + entry_size * length entries

-- The bytes of the strings: a string that is the end of another one has no bytes of its own. Below, the offset of a string in the
-- file.
abbrev pub strings_bytes : List Entry → List ℕ
strings_bytes entries = shared_table (strings entries)

abbrev pub place : List Entry → List ℕ → ℕ
place entries string = shared_place (record { base = strings_start entries; texts = strings entries }) string

abbrev pub strings_end : List Entry → ℕ
strings_end entries = strings_start entries + length (strings_bytes entries)

-- ---- the header and the entries

-- the magic and the version, the number of entries, the length of the strings, and the offset of the extension directory
unfoldable pub header : ℕ → ℕ → ℕ → List ℕ
header entries strings extension =
    magic ++ laid_out header_fields (entries ∷ strings ∷ little_endian ∷ 0 ∷ extension ∷ 0 ∷ 0 ∷ 0 ∷ [])

-- the hwcap of an entry: the index of its name in the list, or 0 if it has no name
abbrev pub hwcap_of : List (List ℕ) → Option (List ℕ) → ℕ
hwcap_of names None = 0
hwcap_of names (Some cap) = named_hwcap (position_or_len (bytes_eq cap) names)

-- The flags, the offsets of the soname and of the path in the file, an unused number, and the hwcap. `place` gives the offset of a
-- string.
unfoldable pub entry_bytes : (List ℕ → ℕ) → List (List ℕ) → Entry → List ℕ
entry_bytes place names entry =
    laid_out entry_fields (flags_of entry.abi ∷ place entry.soname ∷ place entry.path ∷ 0 ∷ hwcap_of names entry.cap ∷ [])

-- ---- the extension

-- zero bytes up to the next multiple of four
abbrev pub padding : ℕ → List ℕ
padding place = replicate ((4 - place % 4) % 4) 0

abbrev pub extension_start : List Entry → ℕ
extension_start entries = strings_end entries + length (padding (strings_end entries))

-- The text of the generator section. It is part of the file format: its number is not that of the program.
unfoldable pub generator : List ℕ
generator = codes "ldconfig (image profile) release version 1"

-- the generator section, and the section of the hwcaps names if there are any
abbrev pub section_count : ℕ → ℕ
section_count names = if names == 0 then 1 else 2

-- After the sections of a directory at this offset come the offsets of the hwcaps names, and then the generator's text.
-- `names` is the number of hwcaps names.
abbrev pub names_start : ℕ → ℕ → ℕ
names_start place names = place + directory_size + section_size * section_count names

abbrev pub generator_start : ℕ → ℕ → ℕ
generator_start place names = names_start place names + 4 * names

-- a section's tag, unused flags, offset and size
abbrev pub section : ℕ → ℕ → ℕ → List ℕ
section tag offset size = laid_out section_fields (tag ∷ 0 ∷ offset ∷ size ∷ [])

-- the extension directory at this offset, for this number of hwcaps names
unfoldable pub directory : ℕ → ℕ → List ℕ
directory place names =
    laid_out directory_fields (extension_magic ∷ section_count names ∷ [])
    ++ section generator_tag (generator_start place names) (length generator)
    ++ (if names == 0 then [] else section names_tag (names_start place names) (4 * names))

-- the offset of a hwcaps name
unfoldable pub name_bytes : (List ℕ → ℕ) → List ℕ → List ℕ
name_bytes place name = little_bytes 4 (place name)

-- ---- the file

-- the cache of these entries
unfoldable pub cache_text : List Entry → List ℕ
cache_text entries =
    header (length entries) (length (strings_bytes entries)) (extension_start entries)
    ++ flat_map (entry_bytes (place entries) (hwcaps_names entries)) entries
    ++ strings_bytes entries
    ++ padding (strings_end entries)
    ++ directory (extension_start entries) (length (hwcaps_names entries))
    ++ flat_map (name_bytes (place entries)) (hwcaps_names entries)
    ++ generator
