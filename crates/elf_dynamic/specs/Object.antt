-- What a file says to the loader, or its first defect (gABI; what glibc's ldconfig and loader accept).
use Rattle.std.specs.Prelude.{ℕ, Bool, true, false, ◌==◌, ◌&&◌, ◌||◌, not, bit_and, List, [], ◌∷◌, ◌++◌, map, filter, find, Option, Some, None, is_some, is_none, option_map, option_and_then, Result, Ok, Err}
use Rattle.std.specs.List.{list_any}
use Rattle.std.specs.Option.{option_map_or}
use Rattle.lib_types.specs.Name.{is_name}
use Rattle.lib_types.specs.declared.analysis.Defect.{Defect}
use Rattle.lib_types.specs.declared.analysis.Defect.TheVariants.{BadMachine, DynOutside, NoStrtab, OutsideLoad, BadString, BadSoname}
use Rattle.elf_headers.specs.Layout.{is_wide, word_size, etype, machine, segments}
use Rattle.elf_headers.specs.Header.{Sentence, first_defect, unless_defect, header_sentences, abi}
use Rattle.elf_dynamic.specs.declared.kinds.DynamicEntry.{DynamicEntry}
use Rattle.elf_dynamic.specs.declared.kinds.Dynamic.{Dynamic}
use Rattle.elf_dynamic.specs.declared.kinds.Object.{Object}
use Rattle.elf_dynamic.specs.Section.{dynamic_segment, is_outside, dynamic_entries, needed, strtab, strsz, soname, rpath, runpath, flags_1, has_tag, value_of, has_text, counting_entries, string_table, has_text_at, text_at}

-- ---- the parts of the section

-- the entries of the file; a file without PT_DYNAMIC has none
unfoldable pub entries : ℕ → List ℕ → List DynamicEntry
entries w bytes = option_map_or (dynamic_entries w bytes) (dynamic_segment w bytes) []

-- the string table of the file, if it is in the file part of a segment
unfoldable pub table : ℕ → List ℕ → Option (List ℕ)
table w bytes = string_table bytes (segments w bytes) (entries w bytes)

abbrev pub lacks_table : List DynamicEntry → Bool
lacks_table es = list_any has_text es && (is_none (value_of strtab es) || is_none (value_of strsz es))

abbrev pub has_table_outside : Option (List ℕ) → List DynamicEntry → Bool
has_table_outside t es = list_any has_text es && is_none t

-- the first entry that counts but has no text in the table
abbrev pub bad_entry : Option (List ℕ) → List DynamicEntry → Option DynamicEntry
bad_entry None es = None
bad_entry (Some t) es = find (λ e. not (has_text_at t e.value)) (counting_entries es)

-- the text of the first entry with a tag
abbrev pub text_in : Option (List ℕ) → Option ℕ → Option (List ℕ)
text_in (Some t) (Some at) = Some (text_at t at)
text_in t at = None

abbrev pub text_of : ℕ → Option (List ℕ) → List DynamicEntry → Option (List ℕ)
text_of tag t es = text_in t (value_of tag es)

-- an empty DT_SONAME counts as no soname
abbrev pub unless_empty : List ℕ → Option (List ℕ)
unless_empty [] = None
unless_empty (b ∷ rest) = Some (b ∷ rest)

abbrev pub soname_of : Option (List ℕ) → List DynamicEntry → Option (List ℕ)
soname_of t es = option_and_then unless_empty (text_of soname t es)

-- the texts of the DT_NEEDED entries
abbrev pub needed_of : Option (List ℕ) → List DynamicEntry → List (List ℕ)
needed_of None es = []
needed_of (Some t) es = map (λ e. text_at t e.value) (filter (has_tag needed) es)

-- DF_1_NODEFLIB of DT_FLAGS_1
abbrev pub has_nodeflib : ℕ → Bool
has_nodeflib flags = not (bit_and flags 0x800 == 0)

abbrev pub nodeflib_of : List DynamicEntry → Bool
nodeflib_of es = option_map_or has_nodeflib (value_of flags_1 es) false

-- the texts and flags of a section with these entries and this string table
abbrev pub dynamic_of : Option (List ℕ) → List DynamicEntry → Dynamic
dynamic_of t es = record {
  soname = soname_of t es;
  needed = needed_of t es;
  rpath = text_of rpath t es;
  runpath = text_of runpath t es;
  nodeflib = nodeflib_of es;
}

-- ---- the defects, in the order of the tests, after those of the header

abbrev pub section_sentences : Option (List ℕ) → List DynamicEntry → List Sentence
section_sentences t es =
    (lacks_table es, NoStrtab)
    ∷ (has_table_outside t es, OutsideLoad)
    ∷ (is_some (bad_entry t es), BadString (option_map_or (λ e. e.tag) (bad_entry t es) 0))
    ∷ (not (option_map_or is_name (soname_of t es) true), BadSoname)
    ∷ []

abbrev pub dynamic_sentences : ℕ → List ℕ → List Sentence
dynamic_sentences w bytes =
    (option_map_or (is_outside bytes) (dynamic_segment w bytes) false, DynOutside)
    ∷ section_sentences (table w bytes) (entries w bytes)

abbrev pub object_sentences : List ℕ → List Sentence
object_sentences bytes = header_sentences bytes ++ dynamic_sentences (word_size (is_wide bytes)) bytes

-- ---- the object

-- the dynamic section, if there is one
abbrev pub dynamic : ℕ → List ℕ → Option Dynamic
dynamic w bytes = option_map (λ _. dynamic_of (table w bytes) (entries w bytes)) (dynamic_segment w bytes)

abbrev pub as_object : List ℕ → Result Object Defect
as_object bytes =
    option_map_or
    (λ abi. Ok (record { abi = abi; etype = etype bytes; dynamic = dynamic (word_size (is_wide bytes)) bytes }))
    (abi bytes)
    (Err (BadMachine (machine bytes)))

unfoldable pub object : List ℕ → Result Object Defect
object bytes = unless_defect (first_defect (object_sentences bytes)) (as_object bytes)
