-- The contents of an auxiliary cache file, and the offset of its first corrupt part.
use Rattle.std.specs.Prelude.{ℕ, ◌+◌, ◌-◌, Bool, true, false, ◌==◌, ◌&&◌, ◌||◌, not, nat_eq, nat_lt, List, [], ◌∷◌, ◌++◌, length, map, drop, find, is_some, unwrap_or, Option, Some, None, option_map, if◌then◌else◌}
use Rattle.std.specs.Int.{cast_signed, w32}
use Rattle.std.specs.List.{starts_with, ends_with, before_first, range_with_len}
use Rattle.std.specs.Option.{option_map_or}
use Rattle.std.specs.Ordering.{is_lt}
use Rattle.cache_layout.specs.Layout.{number}
use Rattle.lib_types.specs.Abi.{abi_of_flags}
use Rattle.lib_types.specs.Bytes.{is_byte}
use Rattle.lib_types.specs.Name.{is_name}
use Rattle.lib_types.specs.declared.analysis.Analysis.{Analysis}
use Rattle.lib_types.specs.declared.analysis.Analysis.TheVariants.{Lib, Not}
use Rattle.lib_types.specs.declared.analysis.Defect.TheVariants.{NotElf}
use Rattle.image_tree.specs.declared.node.Id.{Id}
use Rattle.aux_cache.specs.AuxLayout.{magic, magic_size, header_fields, header_size, record_fields, record_place}
use Rattle.aux_cache.specs.DefectCodes.{defect_of}
use Rattle.aux_cache.specs.Ids.{id_cmp}
use Rattle.aux_cache.specs.declared.fault.AuxFault.{AuxFault}
use Rattle.aux_cache.specs.declared.fault.AuxFault.TheVariants.{Damaged}
use Rattle.aux_cache.specs.declared.fields.AnalysisFields.{AnalysisFields}
use Rattle.aux_cache.specs.declared.layout.Version.{Version}
use Rattle.aux_cache.specs.declared.layout.Version.TheVariants.{V1_0, V1_1}
use Rattle.aux_cache.specs.declared.stamps.Stamp.{Stamp}

-- ---- the header, the records and the strings

-- A file without the magic of version 1.0 is read as version 1.1, and is corrupt if it doesn't have that magic either.
abbrev pub version_of : List ℕ → Version
version_of bytes = if starts_with nat_eq bytes (magic V1_0) then V1_0 else V1_1

abbrev pub header_number : ℕ → List ℕ → ℕ
header_number index bytes = number header_fields index (drop magic_size bytes)

-- the number of records
abbrev pub count : List ℕ → ℕ
count bytes = header_number 0 bytes

abbrev pub strings_length : List ℕ → ℕ
strings_length bytes = header_number 1 bytes

-- the bytes from the record with this index to the end
abbrev pub from_record : List ℕ → ℕ → List ℕ
from_record bytes index = drop (record_place index) bytes

-- the strings: the bytes after the records
abbrev pub strings_in : List ℕ → List ℕ
strings_in bytes = from_record bytes (count bytes)

-- the string at an offset: the bytes before the first NUL
abbrev pub string_at : List ℕ → ℕ → List ℕ
string_at strings offset = before_first (is_byte 0) (drop offset strings)

-- ---- the fields of a record, which is the start of these bytes

abbrev pub id_in : List ℕ → Id
id_in record_bytes = record {
  dev = number record_fields 3 record_bytes;
  inode = number record_fields 0 record_bytes;
  ctime = number record_fields 1 record_bytes;
  size = number record_fields 2 record_bytes;
}

abbrev pub fields_in : List ℕ → AnalysisFields
fields_in record_bytes = record {
  flags = number record_fields 4 record_bytes;
  offset = number record_fields 5 record_bytes;
  code = number record_fields 6 record_bytes;
  value = number record_fields 7 record_bytes;
}

-- the identity is greater than the one before, if there is one
abbrev pub follows : Option Id → Id → Bool
follows before id = option_map_or (λ last. is_lt (id_cmp last id)) before true

-- No soname, or a name. A NUL at the offset or an offset past the strings gives an empty string, which isn't a name.
abbrev pub is_soname : List ℕ → ℕ → Bool
is_soname strings offset = offset == 0 || is_name (string_at strings offset)

-- the soname at this offset in the strings; 0 means no soname
abbrev pub soname_at : List ℕ → ℕ → Option (List ℕ)
soname_at strings offset = if offset == 0 then None else Some (string_at strings offset)

-- A library has the flags of its ABI, the offset of its soname, and no defect.
abbrev pub library_of : List ℕ → AnalysisFields → Option Analysis
library_of strings f =
    if f.code == 0 && f.value == 0 && is_soname strings f.offset
    then option_map (λ abi. Lib abi (soname_at strings f.offset)) (abi_of_flags (cast_signed w32 f.flags))
    else None

-- A file that isn't a library has the code and the number of its defect, no flags and no soname.
abbrev pub not_library_of : AnalysisFields → Option Analysis
not_library_of f = if f.flags == 0 && f.offset == 0 then option_map Not (defect_of f.code f.value) else None

-- whether the records of this version can say a defect
abbrev pub has_defects : Version → Bool
has_defects V1_0 = false
has_defects V1_1 = true

-- the analysis with these four numbers, if they are valid
unfoldable pub analysis_of : Version → List ℕ → AnalysisFields → Option Analysis
analysis_of version strings f = if has_defects version && not (f.code == 0) then not_library_of f else library_of strings f

abbrev pub analysis_in : Version → List ℕ → List ℕ → Option Analysis
analysis_in version strings record_bytes = analysis_of version strings (fields_in record_bytes)

-- the bytes start with a valid record, if `before` is the identity of the record before
abbrev pub is_record : Version → List ℕ → Option Id → List ℕ → Bool
is_record version strings before record_bytes = follows before (id_in record_bytes) && is_some (analysis_in version strings record_bytes)

-- the stamp of this record
unfoldable pub stamp_in : Version → List ℕ → List ℕ → Stamp
stamp_in version strings record_bytes = record {
  id = id_in record_bytes;
  analysis = unwrap_or (analysis_in version strings record_bytes) (Not NotElf);
}

-- ---- corrupt files: the offset of the first rule that applies

abbrev pub Sentence : Type 0
Sentence = Bool × ℕ

abbrev pub first_place : List Sentence → Option ℕ
first_place sentences = option_map (λ s. s.1) (find (λ s. s.0) sentences)

-- The strings start with a NUL, which is the empty string, and end with a NUL.
abbrev pub are_strings : List ℕ → Bool
are_strings strings = starts_with nat_eq strings (0 ∷ []) && ends_with nat_eq strings (0 ∷ [])

abbrev pub file_sentences : Version → List ℕ → List Sentence
file_sentences version bytes =
    (nat_lt (length bytes) header_size || not (starts_with nat_eq bytes (magic version)), 0)
    ∷ (not (length bytes == record_place (count bytes) + strings_length bytes), magic_size)
    ∷ (not (are_strings (strings_in bytes)), record_place (count bytes))
    ∷ []

-- the identity of the record before this index
abbrev pub id_before : List ℕ → ℕ → Option Id
id_before bytes index = if index == 0 then None else Some (id_in (from_record bytes (index - 1)))

abbrev pub record_sentence : Version → List ℕ → ℕ → Sentence
record_sentence version bytes index =
    (not (is_record version (strings_in bytes) (id_before bytes index) (from_record bytes index)), record_place index)

-- the indexes of the records
abbrev pub indexes : List ℕ → List ℕ
indexes bytes = range_with_len 0 (count bytes)

unfoldable pub sentences : Version → List ℕ → List Sentence
sentences version bytes = file_sentences version bytes ++ map (record_sentence version bytes) (indexes bytes)

-- The offset of the first corrupt part. A file without one is accepted.
abbrev pub damage : List ℕ → Option ℕ
damage bytes = first_place (sentences (version_of bytes) bytes)

-- the same as a fault
abbrev pub fault : List ℕ → Option AuxFault
fault bytes = option_map Damaged (damage bytes)

-- ---- the stamps of a file that is not corrupt

abbrev pub stamp_at : List ℕ → ℕ → Stamp
stamp_at bytes index = stamp_in (version_of bytes) (strings_in bytes) (from_record bytes index)

abbrev pub stamps_in : List ℕ → List Stamp
stamps_in bytes = map (stamp_at bytes) (indexes bytes)
