-- What a file's header says, or its first defect (gABI, "ELF Header"; what glibc's ldconfig and loader accept).
use Rattle.std.specs.Prelude.{ℕ, ◌+◌, ◌*◌, Bool, ◌==◌, ◌&&◌, ◌||◌, not, nat_lt, nat_eq, List, [], ◌∷◌, length, find, Option, Some, None, is_none, option_map, Result, Ok, Err}
use Rattle.std.specs.List.{starts_with}
use Rattle.std.specs.Option.{option_map_or}
use Rattle.lib_types.specs.Abi.{abi_of_elf}
use Rattle.lib_types.specs.declared.abi.Abi.{Abi}
use Rattle.lib_types.specs.declared.analysis.Defect.{Defect}
use Rattle.lib_types.specs.declared.analysis.Defect.TheVariants.{NotElf, TooShort, BadClass, BadData, BadMachine, NotShared, BadPhdrs}
use Rattle.elf_headers.specs.declared.kinds.Head.{Head}
use Rattle.elf_headers.specs.Layout.{class, encoding, is_wide, word_size, header_length, etype, machine, eflags, phoff, phentsize, phnum, program_header_length}

-- ---- rules in order: the first one that applies gives the defect

abbrev pub Sentence : Type 0
Sentence = Bool × Defect

abbrev pub first_defect : List Sentence → Option Defect
first_defect sentences = option_map (λ s. s.1) (find (λ s. s.0) sentences)

-- the defect if there is one, else the value
abbrev pub unless_defect : {X : Type 0} → Option Defect → Result X Defect → Result X Defect
unless_defect (Some d) value = Err d
unless_defect None value = value

-- ---- the header of a file of this size

-- 0x7f `ELF`
abbrev pub magic : List ℕ
magic = 0x7f ∷ 0x45 ∷ 0x4c ∷ 0x46 ∷ []

abbrev pub has_magic : List ℕ → Bool
has_magic bytes = starts_with nat_eq bytes magic

abbrev pub has_class : List ℕ → Bool
has_class bytes = (class bytes == 1) || (class bytes == 2)

abbrev pub abi_in : ℕ → List ℕ → Option Abi
abi_in w bytes = abi_of_elf (machine bytes) (class bytes) (eflags w bytes)

abbrev pub abi : List ℕ → Option Abi
abi bytes = abi_in (word_size (is_wide bytes)) bytes

-- ET_EXEC or ET_DYN
abbrev pub is_loadable : List ℕ → Bool
is_loadable bytes = (etype bytes == 2) || (etype bytes == 3)

-- The count is PN_XNUM, or the headers have another length or end past the end of the file.
abbrev pub has_bad_headers : ℕ → ℕ → List ℕ → Bool
has_bad_headers w size bytes =
    (phnum w bytes == 65535)
    || (not (phnum w bytes == 0)
    && (not (phentsize w bytes == program_header_length w)
    || nat_lt size (phoff w bytes + phnum w bytes * program_header_length w)))

abbrev pub header_sentences_of : ℕ → ℕ → List ℕ → List Sentence
header_sentences_of w size bytes =
    (not (has_magic bytes), NotElf)
    ∷ (nat_lt size 16, TooShort size)
    ∷ (not (has_class bytes), BadClass (class bytes))
    ∷ (not (encoding bytes == 1), BadData (encoding bytes))
    ∷ (nat_lt size (header_length w), TooShort size)
    ∷ (is_none (abi_in w bytes), BadMachine (machine bytes))
    ∷ (not (is_loadable bytes), NotShared (etype bytes))
    ∷ (has_bad_headers w size bytes, BadPhdrs)
    ∷ []

-- the header's fields, if it has no defect
abbrev pub head_with : ℕ → ℕ → List ℕ → Abi → Head
head_with w size bytes abi = record {
  abi = abi;
  etype = etype bytes;
  wide = is_wide bytes;
  phoff = phoff w bytes;
  phnum = phnum w bytes;
  length = size;
}

abbrev pub as_head : ℕ → ℕ → List ℕ → Result Head Defect
as_head w size bytes =
    option_map_or (λ abi. Ok (head_with w size bytes abi)) (abi_in w bytes) (Err (BadMachine (machine bytes)))

-- The header of a file of this size. It depends only on the first 64 bytes.
unfoldable pub head_of : ℕ → List ℕ → Result Head Defect
head_of size bytes =
    let w = word_size (is_wide bytes) in
    unless_defect (first_defect (header_sentences_of w size bytes)) (as_head w size bytes)

-- ---- the header of a whole file

abbrev pub header_sentences : List ℕ → List Sentence
header_sentences bytes = header_sentences_of (word_size (is_wide bytes)) (length bytes) bytes

abbrev pub head : List ℕ → Result Head Defect
head bytes = head_of (length bytes) bytes
