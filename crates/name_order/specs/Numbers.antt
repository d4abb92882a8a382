-- Names that are compared from the middle of a number on, for the contracts of private functions.
use Rattle.std.specs.Prelude.{◌≡◌, ◌⊎◌, ◌<◌, ℕ, List, drop, Some}
use Rattle.std.specs.Cmp.Lexicographic.{slice_cmp}
use Rattle.name_order.specs.Digits.{BeginsByNumber}
use Rattle.name_order.specs.Order.{token_cmp, token_order, tokens_after}

-- After the first `count` bytes, both names have read the same number so far, and their order is the order of the remaining tokens. Either
-- that number is above zero, or both names begin a number here whose first digit isn't zero.
pub record GoOnWithNumbers (count : ℕ) (a b : List ℕ) : Type 0 where
  pub number : ℕ
  pub begun : (0 < number) ⊎ (BeginsByNumber (drop count a) × BeginsByNumber (drop count b))
  pub order : token_order a b ≡ slice_cmp token_cmp (tokens_after (Some number) (drop count a)) (tokens_after (Some number) (drop count b))
