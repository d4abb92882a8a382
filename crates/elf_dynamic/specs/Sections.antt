-- A dynamic section from its entries and its string table. Contracts of private functions use these definitions.
use Rattle.std.specs.Prelude.{ℕ, Bool, true, List, length, Option, Some, None, option_and_then, ok_or, Result, Ok, Err}
use Rattle.std.specs.Option.{option_map_or}
use Rattle.lib_types.specs.Name.{is_name}
use Rattle.lib_types.specs.declared.analysis.Defect.{Defect}
use Rattle.lib_types.specs.declared.analysis.Defect.TheVariants.{NoStrtab, OutsideLoad}
use Rattle.elf_headers.specs.declared.kinds.Segment.{Segment}
use Rattle.elf_headers.specs.Layout.{segments}
use Rattle.elf_headers.specs.Header.{first_defect, unless_defect}
use Rattle.elf_dynamic.specs.declared.kinds.DynamicEntry.{DynamicEntry}
use Rattle.elf_dynamic.specs.declared.kinds.Dynamic.{Dynamic}
use Rattle.elf_dynamic.specs.Section.{dynamic_entries, counting_entries, table_at, string_table}
use Rattle.elf_dynamic.specs.Object.{unless_empty, section_sentences, dynamic_sentences, dynamic_of, dynamic}

-- the section's texts and flags, or its first defect
unfoldable pub section_of : Option (List ℕ) → List DynamicEntry → Result Dynamic Defect
section_of t es = unless_defect (first_defect (section_sentences t es)) (Ok (dynamic_of t es))

-- the same for the section in a segment
unfoldable pub section_in : ℕ → List ℕ → Segment → Result Dynamic Defect
section_in w bytes s = let es = dynamic_entries w bytes s in section_of (string_table bytes (segments w bytes) es) es

-- the same for a file, which may have no section
unfoldable pub sections_in : ℕ → List ℕ → Result (Option Dynamic) Defect
sections_in w bytes = unless_defect (first_defect (dynamic_sentences w bytes)) (Ok (dynamic w bytes))

-- the number of entries that count
unfoldable pub counting_in : ℕ → List ℕ → Segment → ℕ
counting_in w bytes s = length (counting_entries (dynamic_entries w bytes s))

-- the string table at the address and with the size from the entries
abbrev pub table_by : ℕ → List ℕ → Option ℕ → Option ℕ → Result (List ℕ) Defect
table_by w bytes None size = Err NoStrtab
table_by w bytes (Some address) None = Err NoStrtab
table_by w bytes (Some address) (Some size) = ok_or (table_at bytes (segments w bytes) address size) OutsideLoad

-- a soname that isn't empty
abbrev pub name_of : Option (List ℕ) → Option (List ℕ)
name_of soname = option_and_then unless_empty soname

abbrev pub has_good_name : Option (List ℕ) → Bool
has_good_name soname = option_map_or is_name (name_of soname) true
