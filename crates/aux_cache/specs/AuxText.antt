-- The bytes of an auxiliary cache file: the header, a record for each stamp, and the strings.
use Rattle.std.specs.Prelude.{ℕ, List, [], ◌∷◌, ◌++◌, length, map, flat_map, unwrap_or}
use Rattle.lib_types.specs.Abi.{flags_of}
use Rattle.lib_types.specs.declared.analysis.Analysis.{Analysis}
use Rattle.lib_types.specs.declared.analysis.Analysis.TheVariants.{Lib, Not}
use Rattle.cache_layout.specs.Layout.{laid_out}
use Rattle.string_pool.specs.Distinct.{distinct}
use Rattle.string_pool.specs.InOrder.{table_of, place_of}
use Rattle.aux_cache.specs.AuxLayout.{magic, header_fields, record_fields}
use Rattle.aux_cache.specs.DefectCodes.{defect_code, defect_value}
use Rattle.aux_cache.specs.declared.fields.AnalysisFields.{AnalysisFields}
use Rattle.aux_cache.specs.declared.layout.Version.TheVariants.{V1_1}
use Rattle.aux_cache.specs.declared.stamps.Stamp.{Stamp}

abbrev pub soname_in : Analysis → List ℕ
soname_in (Lib abi soname) = unwrap_or soname []
soname_in (Not defect) = []

-- the soname of a stamp, or the empty string if it has none
abbrev pub soname_of : Stamp → List ℕ
soname_of stamp = soname_in stamp.analysis

-- the empty string, then each soname once, in the order of first use
abbrev pub strings : List Stamp → List (List ℕ)
strings stamps = distinct ([] ∷ map soname_of stamps)

-- the bytes of the strings, one after another; offsets of strings count from the first of these bytes
abbrev pub strings_bytes : List Stamp → List ℕ
strings_bytes stamps = table_of (strings stamps)

abbrev pub place : List Stamp → List ℕ → ℕ
place stamps string = place_of (record { base = 0; texts = strings stamps }) string

-- the header of a file with this number of records and this length of its strings
unfoldable pub header : ℕ → ℕ → List ℕ
header records strings = magic V1_1 ++ laid_out header_fields (records ∷ strings ∷ [])

-- the four numbers of an analysis, if the soname is at this offset
abbrev pub analysis_fields : Analysis → ℕ → AnalysisFields
analysis_fields (Lib abi soname) offset = record { flags = flags_of abi; offset = offset; code = 0; value = 0 }
analysis_fields (Not defect) offset = record { flags = 0; offset = 0; code = defect_code defect; value = defect_value defect }

abbrev pub numbers_of : AnalysisFields → List ℕ
numbers_of f = f.flags ∷ f.offset ∷ f.code ∷ f.value ∷ []

-- the record of a stamp, if `place` gives the offset of a string
unfoldable pub record_bytes : (List ℕ → ℕ) → Stamp → List ℕ
record_bytes place stamp =
    laid_out record_fields
    (stamp.id.inode ∷ stamp.id.ctime ∷ stamp.id.size ∷ stamp.id.dev ∷ numbers_of (analysis_fields stamp.analysis (place (soname_of stamp))))

-- the file of these stamps, in version 1.1
unfoldable pub aux_text : List Stamp → List ℕ
aux_text stamps =
    header (length stamps) (length (strings_bytes stamps))
    ++ flat_map (record_bytes (place stamps)) stamps
    ++ strings_bytes stamps
