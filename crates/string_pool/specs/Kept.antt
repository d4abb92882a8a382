-- What a table stores: the offset of each text, and the bytes of all texts.
use Rattle.std.specs.Prelude.{◌≡◌, ℕ, ◌+◌, List, [], ◌∷◌, length}
use Rattle.string_pool.specs.Texts.{with_nul}
use Rattle.string_pool.specs.InOrder.{table_of}

-- the offsets of texts that are one after the other, from this offset on
abbrev pub offsets_from : ℕ → List (List ℕ) → List ℕ
offsets_from place [] = []
offsets_from place (text ∷ texts) = place ∷ offsets_from (place + length (with_nul text)) texts

-- the offsets and the bytes are those of the texts
pub record AreLaidOut (base : ℕ) (texts : List (List ℕ)) (offsets bytes : List ℕ) : Type 0 where
  pub places : offsets ≡ offsets_from base texts
  pub table : bytes ≡ table_of texts
