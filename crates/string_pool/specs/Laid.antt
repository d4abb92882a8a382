-- The written texts one after another.
use Rattle.std.specs.Prelude.{◌≡◌, ◌+◌, ℕ, List, Some, ◌<◌, length, take, filter}
use Rattle.std.specs.List.{slice_get}
use Rattle.string_pool.specs.InOrder.{table_of}
use Rattle.string_pool.specs.declared.layout.Layout.{Layout}
use Rattle.string_pool.specs.SharedEnds.{is_written}

-- the bytes of those of the first `count` texts that are written
abbrev pub table_to : List (List ℕ) → ℕ → List ℕ
table_to texts count = table_of (filter (is_written texts) (take count texts))

-- for each of the first `count` texts, where the table ends after it
abbrev pub AreEnds : List (List ℕ) → ℕ → List ℕ → Type 0
AreEnds texts count ends = (number : ℕ) → number < count → slice_get ends number ≡ Some (length (table_to texts (number + 1)))

-- the first `count` texts are laid out
pub record AreLaid (texts : List (List ℕ)) (count : ℕ) (layout : Layout) : Type 0 where
  pub bytes_are : layout.bytes.items ≡ table_to texts count
  pub many : length layout.ends.items ≡ count
  pub ends_are : AreEnds texts count layout.ends.items
