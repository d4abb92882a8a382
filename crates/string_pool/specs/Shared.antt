-- Lists in which an item may occur at many indices.
use Rattle.std.specs.Prelude.{◌≡◌, ◌<◌, ℕ, Bool, true, List, filter_map, nat_eq}
use Rattle.std.specs.List.{slice_get, AllByRecursion, list_any}

-- the items in these rows
abbrev pub taken : {X : Type 0} → List X → List ℕ → List X
taken items rows = filter_map (slice_get items) rows

-- each row is below the number of items
abbrev pub AreWithin : ℕ → List ℕ → Type 0
AreWithin count rows = AllByRecursion (λ row. row < count) rows

-- each row is below the number of items, and each item has a row
pub record AreRows (count : ℕ) (rows : List ℕ) : Type 0 where
  pub within : AreWithin count rows
  pub used : (row : ℕ) → row < count → list_any (nat_eq row) rows ≡ true

-- the lists have the same items, in any order and any number of times: a test finds an item in both lists or in neither
abbrev pub HaveSame : {X : Type 0} → List X → List X → Type 0
HaveSame {X = X} xs ys = (test : X → Bool) → list_any test xs ≡ list_any test ys
