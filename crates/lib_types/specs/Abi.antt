-- The table of ABIs. e_machine, the class and e_flags are from the gABI and its supplements; the cache flags and printed words are from
-- glibc's dl-cache.h and print_entry; $LIB is from ld.so(8); the directories have Debian's multiarch triplets.
use Rattle.std.specs.Prelude.{◌≡◌, ℕ, List, [], ◌∷◌, ℤ, pos, ◌==◌, ◌&&◌, Option, find, codes, bit_and, Bool}
use Rattle.std.specs.List.{list_any}
use Rattle.std.specs.Ordering.{int_eq}
use Rattle.std.specs.Str.{bytes_eq}
use Rattle.lib_types.specs.declared.abi.Abi.{Abi}
use Rattle.lib_types.specs.declared.abi.Row.{Row}
use Rattle.lib_types.specs.declared.abi.Abi.TheVariants.{I386, X86_64, X32, Aarch64, ArmHf, Riscv64D}

-- word: the name in arguments. class: 1 for 32 bits, 2 for 64 bits. mask: the bits of e_flags that are tested. bits: the value they must
-- have. flags: the flags of a cache entry. printed: the text after `libc6` in a printed cache. lib: the value of $LIB. usr_lib:
-- Debian's directory of libraries; without `/usr` it is the one in `/lib`.
pub record AbiRow : Type 0 where
  pub word : List ℕ
  pub machine : ℕ
  pub class : ℕ
  pub mask : ℕ
  pub bits : ℕ
  pub flags : ℕ
  pub printed : List ℕ
  pub lib : List ℕ
  pub usr_lib : List ℕ

abbrev pub row_of : Abi → AbiRow
row_of I386 = record {
  word = codes "i386";
  machine = 3;
  class = 1;
  mask = 0;
  bits = 0;
  flags = 0x0003;
  printed = [];
  lib = codes "lib";
  usr_lib = codes "/usr/lib/i386-linux-gnu";
}
row_of X86_64 = record {
  word = codes "x86-64";
  machine = 62;
  class = 2;
  mask = 0;
  bits = 0;
  flags = 0x0303;
  printed = codes ",x86-64";
  lib = codes "lib64";
  usr_lib = codes "/usr/lib/x86_64-linux-gnu";
}
row_of X32 = record {
  word = codes "x32";
  machine = 62;
  class = 1;
  mask = 0;
  bits = 0;
  flags = 0x0803;
  printed = codes ",x32";
  lib = codes "libx32";
  usr_lib = codes "/usr/lib/x86_64-linux-gnux32";
}
row_of Aarch64 = record {
  word = codes "aarch64";
  machine = 183;
  class = 2;
  mask = 0;
  bits = 0;
  flags = 0x0a03;
  printed = codes ",AArch64";
  lib = codes "lib64";
  usr_lib = codes "/usr/lib/aarch64-linux-gnu";
}
row_of ArmHf = record {
  word = codes "arm-hf";
  machine = 40;
  class = 1;
  mask = 0x400;
  bits = 0x400;
  flags = 0x0903;
  printed = codes ",hard-float";
  lib = codes "lib";
  usr_lib = codes "/usr/lib/arm-linux-gnueabihf";
}
row_of Riscv64D = record {
  word = codes "riscv64-d";
  machine = 243;
  class = 2;
  mask = 0x6;
  bits = 0x4;
  flags = 0x1003;
  printed = codes ",double-float";
  lib = codes "lib";
  usr_lib = codes "/usr/lib/riscv64-linux-gnu";
}

-- the row in the code equals the row of the specification
pub record IsRow (r : Row) (row : AbiRow) : Type 0 where
  pub word : r.word.now ≡ row.word
  pub machine : r.machine ≡ row.machine
  pub class : r.class ≡ row.class
  pub mask : r.mask ≡ row.mask
  pub bits : r.bits ≡ row.bits
  pub flags : r.flags ≡ pos row.flags
  pub printed : r.printed.now ≡ row.printed
  pub lib : r.lib.now ≡ row.lib
  pub usr_lib : r.usr_lib.now ≡ row.usr_lib

abbrev pub abis : List Abi
abis = I386 ∷ X86_64 ∷ X32 ∷ Aarch64 ∷ ArmHf ∷ Riscv64D ∷ []

abbrev pub machine_of : Abi → ℕ
machine_of abi = (row_of abi).machine

abbrev pub class_of : Abi → ℕ
class_of abi = (row_of abi).class

abbrev pub flags_of : Abi → ℕ
flags_of abi = (row_of abi).flags

abbrev pub lib_of : Abi → List ℕ
lib_of abi = (row_of abi).lib

-- an ELF file with these values has the ABI of the row
abbrev pub is_of_row : ℕ → ℕ → ℕ → AbiRow → Bool
is_of_row machine class eflags row = (row.machine == machine) && (row.class == class) && (bit_and eflags row.mask == row.bits)

-- the ABI whose row has these values, or none
abbrev pub abi_of_elf : ℕ → ℕ → ℕ → Option Abi
abi_of_elf machine class eflags = find (λ abi. is_of_row machine class eflags (row_of abi)) abis

abbrev pub abi_of_flags : ℤ → Option Abi
abi_of_flags flags = find (λ abi. int_eq (pos (flags_of abi)) flags) abis

abbrev pub abi_of_word : List ℕ → Option Abi
abi_of_word word = find (λ abi. bytes_eq (row_of abi).word word) abis

-- whether there is a row with this e_machine
abbrev pub is_machine : ℕ → Bool
is_machine number = list_any (λ abi. machine_of abi == number) abis
