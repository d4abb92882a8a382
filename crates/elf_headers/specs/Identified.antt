-- A file whose identification has no defect. Contracts of private functions use it.
use Rattle.std.specs.Prelude.{◌≡◌, ℕ, true, false, ◌==◌, nat_lt, List}
use Rattle.elf_headers.specs.Layout.{encoding, is_wide, word_size}
use Rattle.elf_headers.specs.Header.{has_magic, has_class}

-- The first four rules don't apply, and addresses have this size.
pub record IsIdentified (w size : ℕ) (bytes : List ℕ) : Type 0 where
  pub width : word_size (is_wide bytes) ≡ w
  pub magic : has_magic bytes ≡ true
  pub long : nat_lt size 16 ≡ false
  pub class : has_class bytes ≡ true
  pub encoding : (encoding bytes == 1) ≡ true
