-- The index of a text in a list.
use Rattle.std.specs.Prelude.{◌≡◌, ◌<◌, ℕ, List, [], length, slice_index_or}

-- the text at this index
pub record IsAt (texts : List (List ℕ)) (i : ℕ) (text : List ℕ) : Type 0 where
  pub within : i < length texts
  pub is : slice_index_or texts i [] ≡ text
