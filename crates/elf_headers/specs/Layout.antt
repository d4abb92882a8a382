-- The offsets of the fields of the ELF header and of the program headers, in both classes (gABI, "ELF Header" and "Program Header").
-- Numbers are little-endian (ELFDATA2LSB).
-- `w` is the size of an address: 4 bytes in class 1, 8 bytes in class 2.
use Rattle.std.specs.Prelude.{ℕ, ◌+◌, ◌*◌, Bool, if◌then◌else◌, ◌==◌, List, map, slice_index}
use Rattle.std.specs.List.{range_with_len}
use Rattle.lib_types.specs.Bytes.{field}
use Rattle.elf_headers.specs.declared.kinds.Segment.{Segment}

-- ---- the file header

-- EI_CLASS and EI_DATA
abbrev pub class : List ℕ → ℕ
class bytes = slice_index bytes 4

abbrev pub encoding : List ℕ → ℕ
encoding bytes = slice_index bytes 5

-- whether the file is of class 2
abbrev pub is_wide : List ℕ → Bool
is_wide bytes = class bytes == 2

abbrev pub word_size : Bool → ℕ
word_size wide = if wide then 8 else 4

-- the first value in class 1, the second in class 2
abbrev pub at_class : ℕ → ℕ → ℕ → ℕ
at_class w narrow wide = if w == 8 then wide else narrow

abbrev pub header_length : ℕ → ℕ
header_length w = at_class w 52 64

abbrev pub etype : List ℕ → ℕ
etype bytes = field bytes 16 2

abbrev pub machine : List ℕ → ℕ
machine bytes = field bytes 18 2

abbrev pub phoff : ℕ → List ℕ → ℕ
phoff w bytes = field bytes (at_class w 28 32) w

abbrev pub eflags : ℕ → List ℕ → ℕ
eflags w bytes = field bytes (at_class w 36 48) 4

abbrev pub phentsize : ℕ → List ℕ → ℕ
phentsize w bytes = field bytes (at_class w 42 54) 2

abbrev pub phnum : ℕ → List ℕ → ℕ
phnum w bytes = field bytes (at_class w 44 56) 2

-- ---- the program headers

abbrev pub program_header_length : ℕ → ℕ
program_header_length w = at_class w 32 56

-- the segment of the program header at an offset of the file
abbrev pub segment_at : ℕ → List ℕ → ℕ → Segment
segment_at w bytes at = record {
  kind = field bytes at 4;
  offset = field bytes (at + at_class w 4 8) w;
  vaddr = field bytes (at + at_class w 8 16) w;
  filesz = field bytes (at + at_class w 16 32) w;
}

abbrev pub segment : ℕ → List ℕ → ℕ → Segment
segment w bytes index = segment_at w bytes (phoff w bytes + index * program_header_length w)

unfoldable pub segments : ℕ → List ℕ → List Segment
segments w bytes = map (segment w bytes) (range_with_len 0 (phnum w bytes))
