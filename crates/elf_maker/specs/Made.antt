-- The ELF file for a dynamic section (gABI, "ELF Header", "Program Header" and "Dynamic Section"): file header, PT_LOAD of the whole
-- file, PT_DYNAMIC, dynamic entries and string table, without gaps.
-- `w` is the size of an address: 4 bytes in class 1, 8 bytes in class 2.
use Rattle.std.specs.Prelude.{ℕ, ◌+◌, ◌*◌, Bool, true, false, ◌==◌, ◌&&◌, ◌||◌, List, [], ◌∷◌, ◌++◌, length, Some}
use Rattle.std.specs.List.{flat_map, list_all}
use Rattle.std.specs.Option.{option_map_or}
use Rattle.lib_types.specs.Abi.{machine_of, class_of, row_of}
use Rattle.lib_types.specs.declared.abi.Abi.{Abi}
use Rattle.lib_types.specs.Name.{is_name}
use Rattle.elf_headers.specs.Layout.{word_size, at_class, header_length, program_header_length}
use Rattle.elf_headers.specs.Header.{magic}
use Rattle.elf_dynamic.specs.declared.kinds.DynamicEntry.{DynamicEntry}
use Rattle.elf_dynamic.specs.declared.kinds.Dynamic.{Dynamic}
use Rattle.elf_dynamic.specs.declared.kinds.Object.{Object}
use Rattle.elf_dynamic.specs.Section.{strtab, strsz, flags_1}
use Rattle.elf_maker.specs.declared.kinds.Spec.{Spec}
use Rattle.elf_maker.specs.Fields.{Field, bytes_of}
use Rattle.elf_maker.specs.Texts.{is_text, tagged, strings, text_entries}

abbrev pub width : Spec → ℕ
width spec = word_size (class_of spec.abi == 2)

-- a program or a shared object whose texts can be read back
unfoldable pub is_spec : Spec → Bool
is_spec spec =
    ((spec.etype == 2) || (spec.etype == 3))
    && list_all is_text spec.dynamic.needed
    && option_map_or is_name spec.dynamic.soname true
    && option_map_or is_text spec.dynamic.rpath true
    && option_map_or is_text spec.dynamic.runpath true

-- the address of the first byte of the file in memory
abbrev pub base : ℕ
base = 0x1000

-- ---- the dynamic section

-- DT_FLAGS_1 with DF_1_NODEFLIB
abbrev pub flag_entries : Bool → List DynamicEntry
flag_entries true = record { tag = flags_1; value = 0x800 } ∷ []
flag_entries false = []

-- the entries, if the string table is at this address; the last entry is DT_NULL
unfoldable pub entries : ℕ → Dynamic → List DynamicEntry
entries address d =
    text_entries 1 (tagged d)
    ++ flag_entries d.nodeflib
    ++ record { tag = strtab; value = address }
    ∷ record { tag = strsz; value = length (strings d) }
    ∷ record { tag = 0; value = 0 }
    ∷ []

abbrev pub entry_count : Dynamic → ℕ
entry_count d = length (tagged d) + length (flag_entries d.nodeflib) + 3

abbrev pub entry_fields : ℕ → DynamicEntry → List Field
entry_fields w e = (w, e.tag) ∷ (w, e.value) ∷ []

-- ---- the offsets of the parts in the file

abbrev pub section_at : ℕ → ℕ
section_at w = header_length w + 2 * program_header_length w

abbrev pub section_size : ℕ → Dynamic → ℕ
section_size w d = entry_count d * (2 * w)

abbrev pub strings_at : ℕ → Dynamic → ℕ
strings_at w d = section_at w + section_size w d

abbrev pub size : ℕ → Dynamic → ℕ
size w d = strings_at w d + length (strings d)

-- ---- the parts

-- EI_MAG, EI_CLASS, ELFDATA2LSB, EV_CURRENT and padding
abbrev pub identification : ℕ → List ℕ
identification class = magic ++ class ∷ 1 ∷ 1 ∷ 0 ∷ 0 ∷ 0 ∷ 0 ∷ 0 ∷ 0 ∷ 0 ∷ 0 ∷ 0 ∷ []

-- The fields of the file header from e_type on. The section fields and the entry point are 0.
abbrev pub header_fields : ℕ → ℕ → Abi → List Field
header_fields w etype abi =
    (2, etype)
    ∷ (2, machine_of abi)
    -- e_version
    ∷ (4, 1)
    -- e_entry
    ∷ (w, 0)
    -- e_phoff
    ∷ (w, header_length w)
    -- e_shoff
    ∷ (w, 0)
    -- e_flags
    ∷ (4, (row_of abi).bits)
    -- e_ehsize, e_phentsize and e_phnum
    ∷ (2, header_length w)
    ∷ (2, program_header_length w)
    ∷ (2, 2)
    -- e_shentsize, e_shnum and e_shstrndx
    ∷ (2, 0)
    ∷ (2, 0)
    ∷ (2, 0)
    ∷ []

-- a program header of a read-only segment (PF_R) with this offset and size
abbrev pub program_header_fields : ℕ → ℕ → ℕ → ℕ → ℕ → List Field
program_header_fields w type offset size align =
    (4, type)
    -- p_flags of class 2
    ∷ (at_class w 0 4, 4)
    ∷ (w, offset)
    -- p_vaddr and p_paddr
    ∷ (w, offset + base)
    ∷ (w, offset + base)
    -- p_filesz and p_memsz
    ∷ (w, size)
    ∷ (w, size)
    -- p_flags of class 1
    ∷ (at_class w 4 0, 4)
    ∷ (w, align)
    ∷ []

abbrev pub load_fields : ℕ → Dynamic → List Field
load_fields w d = program_header_fields w 1 0 (size w d) 0x1000

abbrev pub dynamic_fields : ℕ → Dynamic → List Field
dynamic_fields w d = program_header_fields w 2 (section_at w) (section_size w d) w

abbrev pub section_fields : ℕ → Dynamic → List Field
section_fields w d = flat_map (entry_fields w) (entries (strings_at w d + base) d)

abbrev pub made_of : ℕ → Spec → List ℕ
made_of w spec =
    identification (class_of spec.abi)
    ++ bytes_of (header_fields w spec.etype spec.abi)
    ++ bytes_of (load_fields w spec.dynamic)
    ++ bytes_of (dynamic_fields w spec.dynamic)
    ++ bytes_of (section_fields w spec.dynamic)
    ++ strings spec.dynamic

unfoldable pub made : Spec → List ℕ
made spec = made_of (width spec) spec

-- ---- the file

abbrev pub object_of : Spec → Object
object_of spec = record { abi = spec.abi; etype = spec.etype; dynamic = Some spec.dynamic }
