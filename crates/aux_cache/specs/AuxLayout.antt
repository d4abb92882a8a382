-- The layout of the auxiliary cache (/var/cache/ldconfig/aux-cache of glibc's ldconfig(8)). The magic is glibc's, and the records are
-- this project's. Numbers are little-endian. Each struct is the list of its field sizes.
use Rattle.std.specs.Prelude.{ℕ, ◌+◌, ◌*◌, List, [], ◌∷◌, length, sum, codes}
use Rattle.aux_cache.specs.declared.layout.Version.{Version}
use Rattle.aux_cache.specs.declared.layout.Version.TheVariants.{V1_0, V1_1}

-- Both versions have the same layout. Records of version 1.0 are of libraries alone.
abbrev pub magic : Version → List ℕ
magic V1_0 = codes "glibc-ld.so.auxcache-1.0"
magic V1_1 = codes "glibc-ld.so.auxcache-1.1"

abbrev pub magic_size : ℕ
magic_size = length (magic V1_1)

-- after the magic: the number of records, and the length of the strings
abbrev pub header_fields : List ℕ
header_fields = 4 ∷ 4 ∷ []

abbrev pub header_size : ℕ
header_size = magic_size + sum header_fields

-- the inode, the ctime, the size and the device, the ABI's flags, the offset of the soname, and the code and the number of a defect
abbrev pub record_fields : List ℕ
record_fields = 8 ∷ 8 ∷ 8 ∷ 8 ∷ 4 ∷ 4 ∷ 4 ∷ 4 ∷ []

abbrev pub record_size : ℕ
record_size = sum record_fields

-- the offset of the record with this index; equally, of the end of this number of records
abbrev pub record_place : ℕ → ℕ
record_place index = header_size + record_size * index
