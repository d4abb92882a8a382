-- The best of the items with a soname, given a test of which of two items is preferred.
use Rattle.std.specs.Prelude.{ℕ, Bool, true, List, if◌then◌else◌, filter, fold, Option, Some, None}
use Rattle.std.specs.Str.{bytes_eq}

-- the item is preferred to the current best, if there is one
abbrev pub is_better_by : {X : Type 0} → (X → X → Bool) → X → Option X → Bool
is_better_by is_preferred item None = true
is_better_by is_preferred item (Some other) = is_preferred item other

abbrev pub better_by : {X : Type 0} → (X → X → Bool) → Option X → X → Option X
better_by is_preferred best item = if is_better_by is_preferred item best then Some item else best

-- the best of these items and the current best
abbrev pub best_with : {X : Type 0} → (X → List ℕ) → (X → X → Bool) → Option X → List X → List ℕ → Option X
best_with soname_of is_preferred best items soname = fold (better_by is_preferred) best (filter (λ item. bytes_eq (soname_of item) soname) items)
