-- Linker scripts, as ldconfig(8) recognizes them: it reports no file with one of these texts as a malformed library.
use Rattle.std.specs.Prelude.{ℕ, Bool, List, ◌||◌, codes}
use Rattle.name_order.specs.LibraryName.{contains}

-- the first bytes of a file are those of a linker script
abbrev pub is_linker_script : List ℕ → Bool
is_linker_script head = contains (codes "GROUP") head || contains (codes "GNU ld script") head
