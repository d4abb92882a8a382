-- Saturating counters of 64 bits.
use Rattle.std.specs.Prelude.{ℕ, ◌+◌, ◌-◌, ◌^◌, ◌≤◌, min, max}

-- a saturating count, increased by n
abbrev pub raised : ℕ → ℕ → ℕ
raised count n = max count (min (count + n) (2 ^ 64 - 1))

-- the count is greater than before, or saturated
abbrev pub HasRisen : ℕ → ℕ → Type 0
HasRisen before after = raised before 1 ≤ after
