-- The layout of a string table: texts one after the other, each followed by a NUL (glibc's dl-cache.h).
use Rattle.std.specs.Prelude.{ℕ, ◌+◌, List, length, flat_map}
use Rattle.std.specs.List.{before_first}
use Rattle.std.specs.Str.{bytes_eq}
use Rattle.string_pool.specs.Texts.{with_nul}

-- the offset of the first of the texts, and the texts
pub record Strings : Type 0 where
  pub base : ℕ
  pub texts : List (List ℕ)

-- the bytes of the texts
abbrev pub table_of : List (List ℕ) → List ℕ
table_of texts = flat_map with_nul texts

-- the offset of a text from the first text: the number of bytes of the texts before it
abbrev pub offset_of : List (List ℕ) → List ℕ → ℕ
offset_of texts text = length (table_of (before_first (bytes_eq text) texts))

-- the offset of a text in the file
abbrev pub place_of : Strings → List ℕ → ℕ
place_of strings text = strings.base + offset_of strings.texts text
