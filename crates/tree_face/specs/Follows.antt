-- What is added at the end of a list.
use Rattle.std.specs.Prelude.{◌≡◌, ◌++◌, ℕ, List, take}

-- these items follow what was there
abbrev pub IsFollowedBy : {A : Type 0} → List A → List A → List A → Type 0
IsFollowedBy items a b = b ≡ a ++ items

-- a prefix of these items, perhaps all or none, follows what was there
abbrev pub IsFollowedByPart : {A : Type 0} → List A → List A → List A → Type 0
IsFollowedByPart items a b = (n : ℕ) × (b ≡ a ++ take n items)
