-- The libraries that are used in tests.
use Rattle.std.specs.Prelude.{ℕ, false, List, [], Some, None}
use Rattle.lib_types.specs.declared.abi.Abi.{Abi}
use Rattle.elf_maker.specs.declared.kinds.Spec.{Spec}

-- a shared object that has only a soname
abbrev pub library : Abi → List ℕ → Spec
library abi soname = record {
  abi = abi;
  etype = 3;
  dynamic = record { soname = Some soname; needed = []; rpath = None; runpath = None; nodeflib = false };
}
