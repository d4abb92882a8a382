-- The layout of a cache file, as in glibc's dl-cache.h: struct cache_file_new, struct file_entry_new, struct cache_extension and
-- struct cache_extension_section. Numbers are little-endian. Each struct is the list of its field sizes. The writer and the reader
-- are both specified over these lists.
use Rattle.std.specs.Prelude.{ℕ, ◌+◌, ◌/◌, ◌%◌, ◌^◌, ◌==◌, Bool, List, [], ◌∷◌, ◌++◌, length, take, sum, slice_index, codes}
use Rattle.byteorder.specs.Endian.{little_bytes}
use Rattle.lib_types.specs.Bytes.{field}

-- numbers one after another, each as long as its field
abbrev pub laid_out : List ℕ → List ℕ → List ℕ
laid_out [] numbers = []
laid_out (size ∷ sizes) [] = []
laid_out (size ∷ sizes) (number ∷ numbers) = little_bytes size number ++ laid_out sizes numbers

-- the number in the field with this index, if the bytes begin with fields of these sizes
abbrev pub number : List ℕ → ℕ → List ℕ → ℕ
number sizes index bytes = field bytes (sum (take index sizes)) (slice_index sizes index)

-- ---- the header

-- the magic and the version
abbrev pub magic : List ℕ
magic = codes "glibc-ld.so.cache" ++ codes "1.1"

-- the magic of the older cache format
abbrev pub old_magic : List ℕ
old_magic = codes "ld.so-1.7.0"

-- The header fields after the magic and the version: the number of entries, the length of the strings, the flags, three unused
-- bytes, the offset of the extension directory, and three unused numbers.
abbrev pub header_fields : List ℕ
header_fields = 4 ∷ 4 ∷ 1 ∷ 3 ∷ 4 ∷ 4 ∷ 4 ∷ 4 ∷ []

abbrev pub header_size : ℕ
header_size = length magic + sum header_fields

-- the flags of a little-endian cache
abbrev pub little_endian : ℕ
little_endian = 2

-- ---- an entry

-- the flags, the offsets of the name and of the path in the file, an unused number, and the hwcap
abbrev pub entry_fields : List ℕ
entry_fields = 4 ∷ 4 ∷ 4 ∷ 4 ∷ 8 ∷ []

abbrev pub entry_size : ℕ
entry_size = sum entry_fields

-- bit 62 of the hwcap: the hwcap is the index of a hwcaps name
abbrev pub is_named : ℕ → Bool
is_named hwcap = hwcap / 2 ^ 62 % 2 == 1

-- the index of the hwcaps name: the low 32 bits of the hwcap
abbrev pub name_index : ℕ → ℕ
name_index hwcap = hwcap % 2 ^ 32

-- the hwcap that holds this index
abbrev pub named_hwcap : ℕ → ℕ
named_hwcap index = 2 ^ 62 + index

-- ---- the extension directory

abbrev pub extension_magic : ℕ
extension_magic = 0xeaa42174

-- the directory's magic, and the number of its sections
abbrev pub directory_fields : List ℕ
directory_fields = 4 ∷ 4 ∷ []

abbrev pub directory_size : ℕ
directory_size = sum directory_fields

-- a section's tag, flags, offset and size
abbrev pub section_fields : List ℕ
section_fields = 4 ∷ 4 ∷ 4 ∷ 4 ∷ []

abbrev pub section_size : ℕ
section_size = sum section_fields

-- the tags of the generator section and of the section with the offsets of the hwcaps names
abbrev pub generator_tag : ℕ
generator_tag = 0

abbrev pub names_tag : ℕ
names_tag = 1
