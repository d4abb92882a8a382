-- The contents of a cache file, and its first defect (glibc's dl-cache.h, and what glibc's ld.so and ldconfig read). The defects and
-- their order are this project's.
use Rattle.std.specs.Prelude.{ℕ, ◌+◌, ◌*◌, ◌/◌, ◌%◌, ℤ, Bool, false, ◌==◌, ◌&&◌, ◌||◌, not, nat_eq, nat_lt, nat_le, List, [], ◌∷◌, ◌++◌, length, map, drop, take, slice_index, find, flat_map, Option, Some, None, option_map, if◌then◌else◌}
use Rattle.std.specs.List.{starts_with, list_all, list_any, before_first, range_with_len}
use Rattle.std.specs.Option.{option_map_or}
use Rattle.std.specs.Int.{cast_signed, w32}
use Rattle.lib_types.specs.Bytes.{field}
use Rattle.cache_layout.specs.Layout.{number, magic, old_magic, header_fields, header_size, entry_fields, entry_size, is_named, name_index, extension_magic, directory_fields, directory_size, section_fields, section_size, generator_tag, names_tag}
use Rattle.cache_reader.specs.declared.extension.Section.{Section}
use Rattle.cache_reader.specs.declared.defect.CacheDefect.{CacheDefect}
use Rattle.cache_reader.specs.declared.defect.CacheDefect.TheVariants.{OldFormat, Short, BadMagic, BadEndian, EntriesOutside, StringOutside, NoNul, BadExtension, BadHwcap}

-- ---- the header

abbrev pub header : ℕ → List ℕ → ℕ
header index bytes = number header_fields index (drop (length magic) bytes)

abbrev pub nlibs : List ℕ → ℕ
nlibs bytes = header 0 bytes

abbrev pub strings_length : List ℕ → ℕ
strings_length bytes = header 1 bytes

abbrev pub flags : List ℕ → ℕ
flags bytes = header 2 bytes

-- the offset of the extension directory, or 0 if there is none
abbrev pub extension : List ℕ → ℕ
extension bytes = header 4 bytes

-- ---- the entries and their strings

-- the bytes from the entry with this index to the end
abbrev pub from_entry : List ℕ → ℕ → List ℕ
from_entry bytes index = drop (header_size + entry_size * index) bytes

abbrev pub key : List ℕ → ℕ → ℕ
key bytes index = number entry_fields 1 (from_entry bytes index)

abbrev pub value : List ℕ → ℕ → ℕ
value bytes index = number entry_fields 2 (from_entry bytes index)

abbrev pub hwcap : List ℕ → ℕ → ℕ
hwcap bytes index = number entry_fields 4 (from_entry bytes index)

abbrev pub is_nul : ℕ → Bool
is_nul byte = byte == 0

-- the text at an offset: the bytes before the first NUL
abbrev pub text_at : List ℕ → ℕ → List ℕ
text_at bytes at = before_first is_nul (drop at bytes)

-- whether the text at an offset is terminated in the file: there is a NUL at the offset or after it
abbrev pub is_ended : List ℕ → ℕ → Bool
is_ended bytes at = list_any is_nul (drop at bytes)

-- ---- the extension directory

abbrev pub section_count : List ℕ → ℕ → ℕ
section_count bytes at = number directory_fields 1 (drop at bytes)

-- the section with this index, if the directory is at this offset
unfoldable pub section_at : List ℕ → ℕ → ℕ → Section
section_at bytes at index =
    let here = drop (at + directory_size + section_size * index) bytes in
    record {
      tag = number section_fields 0 here;
      offset = number section_fields 2 here;
      size = number section_fields 3 here;
    }

abbrev pub sections_at : List ℕ → ℕ → List Section
sections_at bytes at = map (section_at bytes at) (range_with_len 0 (section_count bytes at))

-- the sections of a file, none if there isn't an extension directory
abbrev pub sections : List ℕ → List Section
sections bytes = if extension bytes == 0 then [] else sections_at bytes (extension bytes)

-- If several sections have one tag, the first one counts.
abbrev pub with_tag : ℕ → List Section → Option Section
with_tag tag sections = find (λ s. s.tag == tag) sections

abbrev pub is_inside : List ℕ → Section → Bool
is_inside bytes s = nat_le (s.offset + s.size) (length bytes)

-- the 4-byte numbers in a section
abbrev pub numbers_in : List ℕ → Section → List ℕ
numbers_in bytes s = map (λ index. field bytes (s.offset + 4 * index) 4) (range_with_len 0 (s.size / 4))

-- the section with the offsets of the hwcaps names
abbrev pub names_section : List ℕ → Option Section
names_section bytes = with_tag names_tag (sections bytes)

abbrev pub name_offsets : List ℕ → List ℕ
name_offsets bytes = option_map_or (numbers_in bytes) (names_section bytes) []

-- the bytes of a section
abbrev pub bytes_in : List ℕ → Section → List ℕ
bytes_in bytes s = take s.size (drop s.offset bytes)

-- the text of the generator section, which may contain NULs
abbrev pub generator : List ℕ → Option (List ℕ)
generator bytes = option_map (bytes_in bytes) (with_tag generator_tag (sections bytes))

-- ---- the defects: the first rule that applies gives the defect

abbrev pub Sentence : Type 0
Sentence = Bool × CacheDefect

abbrev pub first_defect : List Sentence → Option CacheDefect
first_defect sentences = option_map (λ s. s.1) (find (λ s. s.0) sentences)

abbrev pub magic_sentences : List ℕ → List Sentence
magic_sentences bytes =
    (starts_with nat_eq bytes old_magic, OldFormat)
    ∷ (nat_lt (length bytes) header_size, Short (length bytes))
    ∷ (not (starts_with nat_eq bytes magic), BadMagic)
    ∷ []

abbrev pub header_sentences : List ℕ → List Sentence
header_sentences bytes =
    -- 1 is invalid, 3 is big endian
    (flags bytes % 2 == 1, BadEndian (flags bytes))
    ∷ (nat_lt (length bytes) (header_size + entry_size * nlibs bytes + strings_length bytes), EntriesOutside (nlibs bytes))
    ∷ []

abbrev pub entry_sentences : List ℕ → ℕ → List Sentence
entry_sentences bytes index =
    (nat_le (length bytes) (key bytes index) || nat_le (length bytes) (value bytes index), StringOutside index)
    ∷ (not (is_ended bytes (key bytes index) && is_ended bytes (value bytes index)), NoNul index)
    ∷ []

-- The section isn't aligned to 4 bytes, its size isn't a multiple of 4, or one of the texts at its offsets has no NUL.
abbrev pub has_bad_offsets : List ℕ → Section → Bool
has_bad_offsets bytes s =
    not (s.offset % 4 == 0) || not (s.size % 4 == 0) || not (list_all (is_ended bytes) (numbers_in bytes s))

-- This offset doesn't have an extension directory, or the directory isn't completely in the file.
abbrev pub is_no_directory : List ℕ → ℕ → Bool
is_no_directory bytes at =
    not (at % 4 == 0)
    || nat_lt (length bytes) (at + directory_size)
    || not (number directory_fields 0 (drop at bytes) == extension_magic)
    || nat_lt (length bytes) (at + directory_size + section_size * section_count bytes at)

-- The directory isn't there, one of its sections isn't in the file, or its offsets of hwcaps names are bad.
abbrev pub is_bad_directory : List ℕ → ℕ → Bool
is_bad_directory bytes at =
    is_no_directory bytes at
    || not (list_all (is_inside bytes) (sections_at bytes at))
    || option_map_or (has_bad_offsets bytes) (with_tag names_tag (sections_at bytes at)) false

abbrev pub extension_sentences : List ℕ → List Sentence
extension_sentences bytes =
    (not (extension bytes == 0) && is_bad_directory bytes (extension bytes), BadExtension (extension bytes)) ∷ []

abbrev pub hwcap_sentences : List ℕ → ℕ → List Sentence
hwcap_sentences bytes index =
    (is_named (hwcap bytes index) && nat_le (length (name_offsets bytes)) (name_index (hwcap bytes index)), BadHwcap index) ∷ []

-- the indexes of the entries
abbrev pub indexes : List ℕ → List ℕ
indexes bytes = range_with_len 0 (nlibs bytes)

unfoldable pub sentences : List ℕ → List Sentence
sentences bytes =
    magic_sentences bytes
    ++ header_sentences bytes
    ++ flat_map (entry_sentences bytes) (indexes bytes)
    ++ extension_sentences bytes
    ++ flat_map (hwcap_sentences bytes) (indexes bytes)

-- The first defect of a file. A file without one is accepted.
abbrev pub defect : List ℕ → Option CacheDefect
defect bytes = first_defect (sentences bytes)

-- ---- the contents of an accepted file

pub record CachedEntry : Type 0 where
  pub flags : ℤ
  pub name : List ℕ
  pub path : List ℕ
  pub hwcap : ℕ
  pub cap : Option (List ℕ)

-- the hwcaps name of an entry, if it has one
abbrev pub cap_of : List ℕ → ℕ → Option (List ℕ)
cap_of bytes hwcap =
    if is_named hwcap then Some (text_at bytes (slice_index (name_offsets bytes) (name_index hwcap))) else None

unfoldable pub entry_at : List ℕ → ℕ → CachedEntry
entry_at bytes index = record {
  flags = cast_signed w32 (number entry_fields 0 (from_entry bytes index));
  name = text_at bytes (key bytes index);
  path = text_at bytes (value bytes index);
  hwcap = hwcap bytes index;
  cap = cap_of bytes (hwcap bytes index);
}

-- the entries of an accepted file
abbrev pub read : List ℕ → List CachedEntry
read bytes = map (entry_at bytes) (indexes bytes)
