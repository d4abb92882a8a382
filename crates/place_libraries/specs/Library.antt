-- A library of a search directory: the name of its file or of a link to it, and the soname by which it is looked up (gABI: DT_SONAME).
use Rattle.std.specs.Prelude.{ℕ, List}
use Rattle.lib_types.specs.declared.abi.Abi.{Abi}

pub record Library : Type 0 where
  pub name : List ℕ
  pub soname : List ℕ
  pub abi : Abi
