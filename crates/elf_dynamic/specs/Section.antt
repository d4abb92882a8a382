-- The dynamic section of a file, in both classes (gABI, "Dynamic Section"). Numbers are little-endian (ELFDATA2LSB).
-- `w` is the size of an address: 4 bytes in class 1, 8 bytes in class 2. Numbers have no bound here.
use Rattle.std.specs.Prelude.{ℕ, ◌+◌, ◌-◌, ◌*◌, ◌/◌, Bool, if◌then◌else◌, ◌==◌, ◌&&◌, ◌||◌, not, nat_le, nat_lt, min, List, [], ◌∷◌, map, length, take, drop, find, take_while, Option, Some, None, option_map, option_and_then}
use Rattle.std.specs.List.{list_any, range_with_len}
use Rattle.lib_types.specs.Bytes.{field}
use Rattle.elf_headers.specs.declared.kinds.Segment.{Segment}
use Rattle.elf_headers.specs.Layout.{segments}
use Rattle.elf_dynamic.specs.declared.kinds.DynamicEntry.{DynamicEntry}
use Rattle.elf_dynamic.specs.declared.kinds.Place.{Place}
use Rattle.elf_dynamic.specs.declared.text.TheConstants.{TEXT_LIMIT}

-- ---- segments: PT_LOAD and PT_DYNAMIC

abbrev pub is_load : Segment → Bool
is_load s = s.kind == 1

abbrev pub is_dynamic : Segment → Bool
is_dynamic s = s.kind == 2

-- the first PT_DYNAMIC
abbrev pub dynamic_segment : ℕ → List ℕ → Option Segment
dynamic_segment w bytes = find is_dynamic (segments w bytes)

-- the segment ends past the end of the file
abbrev pub is_outside : List ℕ → Segment → Bool
is_outside bytes s = nat_lt (length bytes) (s.offset + s.filesz)

-- the address is in the segment's file part
abbrev pub has_address : ℕ → Segment → Bool
has_address address s = nat_le s.vaddr address && nat_lt address (s.vaddr + s.filesz)

-- ---- places: parts of the file

abbrev pub bytes_of : Place → List ℕ → List ℕ
bytes_of p bytes = take p.size (drop p.at bytes)

-- the same for an optional place
abbrev pub bytes_if : Option Place → List ℕ → Option (List ℕ)
bytes_if p bytes = option_map (λ p. bytes_of p bytes) p

-- the first `size` bytes of a place, if it has that many
abbrev pub front_of : ℕ → Place → Option Place
front_of size p = if nat_le size p.size then Some (record p { size = size }) else None

-- The place of an address in this segment, in a file of this length. It ends with the segment's file part or with the file.
abbrev pub place_in : ℕ → ℕ → Segment → Option Place
place_in length address s =
    let at = s.offset + (address - s.vaddr) in
    if nat_le at length then Some (record { at = at; size = min (s.vaddr + s.filesz - address) (length - at) }) else None

-- the place of an address: in the first PT_LOAD that has the address
abbrev pub place_of : List ℕ → List Segment → ℕ → Option Place
place_of bytes segments address =
    option_and_then (place_in (length bytes) address) (find (λ s. is_load s && has_address address s) segments)

-- ---- the entries

abbrev pub entry_at : ℕ → List ℕ → ℕ → DynamicEntry
entry_at w bytes at = record { tag = field bytes at w; value = field bytes (at + w) w }

-- the complete entries of the segment
abbrev pub whole_entries : ℕ → List ℕ → Segment → List DynamicEntry
whole_entries w bytes s = map (λ index. entry_at w bytes (s.offset + index * (2 * w))) (range_with_len 0 (s.filesz / (2 * w)))

-- the entries before the first DT_NULL, or all of them
unfoldable pub dynamic_entries : ℕ → List ℕ → Segment → List DynamicEntry
dynamic_entries w bytes s = take_while (λ e. not (e.tag == 0)) (whole_entries w bytes s)

abbrev pub needed : ℕ
needed = 1

abbrev pub strtab : ℕ
strtab = 5

abbrev pub strsz : ℕ
strsz = 10

abbrev pub soname : ℕ
soname = 14

abbrev pub rpath : ℕ
rpath = 15

abbrev pub runpath : ℕ
runpath = 29

abbrev pub flags_1 : ℕ
flags_1 = 0x6ffffffb

abbrev pub has_tag : ℕ → DynamicEntry → Bool
has_tag tag e = e.tag == tag

-- the value of the first entry with this tag
abbrev pub value_of : ℕ → List DynamicEntry → Option ℕ
value_of tag entries = option_map (λ e. e.value) (find (has_tag tag) entries)

-- the entries whose value is the offset of a text in the string table
abbrev pub has_text : DynamicEntry → Bool
has_text e = has_tag needed e || has_tag soname e || has_tag rpath e || has_tag runpath e

-- Of these entries, each DT_NEEDED counts. Of each other tag only the first entry counts.
abbrev pub counts_after : List DynamicEntry → DynamicEntry → Bool
counts_after earlier e = has_text e && (has_tag needed e || not (list_any (has_tag e.tag) earlier))

abbrev pub counting_after : List DynamicEntry → List DynamicEntry → List DynamicEntry
counting_after earlier [] = []
counting_after earlier (e ∷ rest) =
    if counts_after earlier e then e ∷ counting_after (e ∷ earlier) rest else counting_after (e ∷ earlier) rest

unfoldable pub counting_entries : List DynamicEntry → List DynamicEntry
counting_entries entries = counting_after [] entries

-- ---- the string table: DT_STRTAB is an address, DT_STRSZ the number of bytes

-- the `size` bytes at an address, if the place of the address has that many
abbrev pub table_at : List ℕ → List Segment → ℕ → ℕ → Option (List ℕ)
table_at bytes segments address size = bytes_if (option_and_then (front_of size) (place_of bytes segments address)) bytes

abbrev pub string_table : List ℕ → List Segment → List DynamicEntry → Option (List ℕ)
string_table bytes segments entries =
    option_and_then (λ address. option_and_then (table_at bytes segments address) (value_of strsz entries)) (value_of strtab entries)

abbrev pub is_nul : ℕ → Bool
is_nul b = b == 0

-- the bytes of the table from this offset on, up to TEXT_LIMIT
unfoldable pub near : List ℕ → ℕ → List ℕ
near table at = take TEXT_LIMIT (drop at table)

-- a NUL ends the text at this offset of the table
abbrev pub has_text_at : List ℕ → ℕ → Bool
has_text_at table at = nat_lt at (length table) && list_any is_nul (near table at)

-- the bytes from this offset up to the NUL
abbrev pub text_at : List ℕ → ℕ → List ℕ
text_at table at = take_while (λ b. not (is_nul b)) (near table at)
