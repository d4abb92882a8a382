-- The number of the first written text that ends in a text.
use Rattle.std.specs.Prelude.{◌≡◌, ◌&&◌, ℕ, List, [], ◌∷◌, Option, Some, None, min, cond}
use Rattle.std.specs.List.{position_or_len, slice_get}
use Rattle.string_pool.specs.declared.backward.Numbered.{Numbered}
use Rattle.string_pool.specs.SharedEnds.{ends_in, is_written}

-- the number of the first written text that ends in this one
abbrev pub host_of : List (List ℕ) → List ℕ → ℕ
host_of texts text = position_or_len (λ other. is_written texts other && ends_in text other) texts

-- different texts
abbrev pub AreDifferent : List (List ℕ) → Type 0
AreDifferent texts = (i j : ℕ) (text : List ℕ) → slice_get texts i ≡ Some text → slice_get texts j ≡ Some text → i ≡ j

-- the least of the numbers
abbrev pub least : Option ℕ → ℕ → ℕ
least None number = number
least (Some first) number = min first number

-- Of a stack, the last item first: what is left without the items on top whose texts end in this one, and the least of the numbers
-- of these items.
abbrev pub left_below : List ℕ → List Numbered → List Numbered
left_below text [] = []
left_below text (item ∷ items) = cond (ends_in text item.text.now) (left_below text items) (item ∷ items)

abbrev pub least_above : List ℕ → Option ℕ → List Numbered → Option ℕ
least_above text first [] = first
least_above text first (item ∷ items) = cond (ends_in text item.text.now) (least_above text (Some (least first item.number)) items) first
