-- Saturating counters that rise.
use Rattle.std.proofs.Common.{◌≡◌, ◌+◌, ℕ, arith, ◌≤◌}
use Rattle.lib_types.specs.Counts.{raised, HasRisen}

pub raised_on : (c a b : ℕ) → raised (raised c a) b ≡ raised c (a + b)
raised_on c a b = omega arith

-- a count that is above its value at a later moment is above its value at an earlier one
pub risen_since : (a b c : ℕ) → a ≤ b → HasRisen b c → HasRisen a c
risen_since a b c before risen = omega (arith, before, risen)
