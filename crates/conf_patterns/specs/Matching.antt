-- How the code matches: it matches the parts up to the next star at one position of the name.
-- It then matches the parts after the star at the first later position where they fit.
use Rattle.std.specs.Prelude.{◌≡◌, ◌+◌, ◌<◌, ℕ, Bool, true, false, List, length, drop}
use Rattle.conf_patterns.specs.Glob.{Part, matches, some_tail}
use Rattle.conf_patterns.specs.declared.glob.Reach.{Reach}
use Rattle.conf_patterns.specs.declared.glob.Reach.TheVariants as reach

-- Whether a match is possible, given how a run ended. At a star, the rest of the parts must match some suffix of the rest of the name.
abbrev pub comes_to : Reach → Bool
comes_to reach.Fails = false
comes_to reach.Ends = true
comes_to (reach.Star rest left) = some_tail (matches rest) left.now

-- How a run ends decides whether the parts match the name. If it ends at a star, it also decides whether the parts match any suffix:
-- no later position has to be tried.
abbrev pub Decides : List Part → List ℕ → Reach → Type 0
Decides parts name reach.Fails = matches parts name ≡ false
Decides parts name reach.Ends = matches parts name ≡ true
Decides parts name (reach.Star rest left) =
    (matches parts name ≡ some_tail (matches rest) left.now) × (some_tail (matches parts) name ≡ some_tail (matches rest) left.now)

abbrev pub is_failure : Reach → Bool
is_failure reach.Fails = true
is_failure reach.Ends = false
is_failure (reach.Star rest left) = false

-- fewer than `n` parts are left
abbrev pub IsShorter : ℕ → Reach → Type 0
IsShorter n reach.Fails = Unit {0}
IsShorter n reach.Ends = Unit {0}
IsShorter n (reach.Star rest left) = length rest < n

-- the number of parts left, counting the star itself
abbrev pub left_in : Reach → ℕ
left_in reach.Fails = 0
left_in reach.Ends = 0
left_in (reach.Star rest left) = 1 + length rest

-- The first parts matched the front of the name. The parts match the name exactly if `rest` matches `left`.
-- If the parts match a suffix of the name, `rest` matches the corresponding suffix of `left`.
pub record Goes (parts rest : List Part) (name left : List ℕ) : Type 0 where
  pub here : matches parts name ≡ matches rest left
  pub later : (n : ℕ) → matches parts (drop n name) ≡ true → matches rest (drop n left) ≡ true
