-- The machine of an ELF file (gABI, "ELF Header": EI_DATA at 5, e_machine at 18), and the machines that caches are built for.
use Rattle.std.specs.Prelude.{ℕ, ◌&&◌, ◌||◌, ◌+◌, ◌*◌, ◌^◌, List, ◌∷◌, Option, Some, None, codes, length, nat_eq, nat_le, get_or, ◌==◌, if◌then◌else◌}
use Rattle.std.specs.List.{starts_with}
use Rattle.std.specs.Option.{option_and_then}
use Rattle.lib_types.specs.Abi.{is_machine}

-- the machine number, in the byte order that the file has: ELFDATA2MSB is 2
abbrev pub machine_in : List ℕ → Option ℕ
machine_in head = if nat_le 20 (length head) && starts_with nat_eq head (127 ∷ codes "ELF") then Some (number head) else None
  where
    number : List ℕ → ℕ
    number h = if get_or h 5 0 == 2 then 2 ^ 8 * get_or h 18 0 + get_or h 19 0 else get_or h 18 0 + 2 ^ 8 * get_or h 19 0

-- None if the file is not an ELF file, or if caches are built for its machine
abbrev pub foreign_machine : List ℕ → Option ℕ
foreign_machine head = option_and_then (λ number. if is_machine number then None else Some number) (machine_in head)

-- the usual name of a machine that no cache is built for (e_machine in the gABI)
abbrev pub machine_name : ℕ → Option (List ℕ)
machine_name number =
    if number == 2 || number == 43 then Some (codes "SPARC") else
    if number == 4 then Some (codes "m68k") else
    if number == 8 then Some (codes "MIPS") else
    if number == 15 then Some (codes "PA-RISC") else
    if number == 20 then Some (codes "PowerPC") else
    if number == 21 then Some (codes "PowerPC64") else
    if number == 22 then Some (codes "S/390") else
    if number == 42 then Some (codes "SuperH") else
    if number == 50 then Some (codes "IA-64") else
    if number == 258 then Some (codes "LoongArch") else
    if number == 0x9026 then Some (codes "Alpha") else
    None
