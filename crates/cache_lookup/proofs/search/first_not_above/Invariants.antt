use Rattle.std.proofs.Common.{◌≡◌, ◌≤◌, ◌<◌, ◌-◌, ◌^◌, ℕ, length}
use Rattle.cache_lookup.specs.Searches.{AreAbove, AreNotAbove, Halves}
use Rattle.cache_lookup.proofs.search.first_not_above.Given as goal

-- The names before `low` are above. The names from `high` on are not.
abbrev pub invariant-loop-low : goal.invariant-loop-low
invariant-loop-low g l = record {
  within : l.low ≤ l.high;
  high : l.high ≤ length (g.P.Probes.state l.fn.probes).entries;
  entries : (g.P.Probes.state l.probes).entries ≡ (g.P.Probes.state l.fn.probes).entries;
  above : AreAbove l.name (g.P.Probes.state l.fn.probes).entries l.low;
  others : AreNotAbove l.name (g.P.Probes.state l.fn.probes).entries l.high;
  steps : (k : ℕ) → length (g.P.Probes.state l.fn.probes).entries < 2 ^ k → Halves k (g.P.Probes.state l.fn.probes).steps (g.P.Probes.state l.probes).steps (l.high - l.low);
}

abbrev pub decreases-loop-low : goal.decreases-loop-low
decreases-loop-low g l = l.high - l.low
