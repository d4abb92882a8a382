-- What holds for each row of the table of ABIs.
use Rattle.std.proofs.Common.{◌≡◌, ◌<◌, ◌^◌, ◌==◌, ◌||◌, true, pos, Some, refl, arith}
use Rattle.std.specs.Int.{cast_signed, w32}
use Rattle.lib_types.specs.Abi.{abi_of_elf, abi_of_flags, class_of, flags_of, machine_of, row_of}
use Rattle.lib_types.specs.declared.abi.Abi.{Abi}
use Rattle.lib_types.specs.declared.abi.Abi.TheVariants.{I386, X86_64, X32, Aarch64, ArmHf, Riscv64D}

-- the flags fit the four-byte field of a cache entry, and are not negative there
pub flags_small : (a : Abi) → flags_of a < 2 ^ 32
flags_small I386 = omega arith
flags_small X86_64 = omega arith
flags_small X32 = omega arith
flags_small Aarch64 = omega arith
flags_small ArmHf = omega arith
flags_small Riscv64D = omega arith

pub signed_flags : (a : Abi) → cast_signed w32 (flags_of a) ≡ pos (flags_of a)
signed_flags I386 = refl
signed_flags X86_64 = refl
signed_flags X32 = refl
signed_flags Aarch64 = refl
signed_flags ArmHf = refl
signed_flags Riscv64D = refl

pub flags_back : (a : Abi) → abi_of_flags (cast_signed w32 (flags_of a)) ≡ Some a
flags_back I386 = refl
flags_back X86_64 = refl
flags_back X32 = refl
flags_back Aarch64 = refl
flags_back ArmHf = refl
flags_back Riscv64D = refl

-- an ELF file with the values of a row has the ABI of the row
pub machine_small : (a : Abi) → machine_of a < 256 ^ 2
machine_small I386 = omega arith
machine_small X86_64 = omega arith
machine_small X32 = omega arith
machine_small Aarch64 = omega arith
machine_small ArmHf = omega arith
machine_small Riscv64D = omega arith

pub bits_small : (a : Abi) → (row_of a).bits < 256 ^ 4
bits_small I386 = omega arith
bits_small X86_64 = omega arith
bits_small X32 = omega arith
bits_small Aarch64 = omega arith
bits_small ArmHf = omega arith
bits_small Riscv64D = omega arith

pub known_abi : (a : Abi) → abi_of_elf (machine_of a) (class_of a) (row_of a).bits ≡ Some a
known_abi I386 = refl
known_abi X86_64 = refl
known_abi X32 = refl
known_abi Aarch64 = refl
known_abi ArmHf = refl
known_abi Riscv64D = refl

pub known_class : (a : Abi) → ((class_of a == 1) || (class_of a == 2)) ≡ true
known_class I386 = refl
known_class X86_64 = refl
known_class X32 = refl
known_class Aarch64 = refl
known_class ArmHf = refl
known_class Riscv64D = refl
