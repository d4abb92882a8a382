use Rattle.std.proofs.Common.{◌≡◌, ◌≤◌, ◌-◌}
use Rattle.lib_types.specs.Counts.{raised}
use Rattle.cache_lookup.specs.Probing.{rank_of}
use Rattle.cache_lookup.specs.Searches.{AreEqual, IsLeast}
use Rattle.cache_lookup.proofs.search.best_from.Given as goal

-- all names so far are equal, and this is the best candidate among them
abbrev pub invariant-loop-index : goal.invariant-loop-index
invariant-loop-index g l = record {
  entries : (g.P.Probes.state l.probes).entries ≡ (g.P.Probes.state l.fn.probes).entries;
  equal : AreEqual l.name (g.P.Probes.state l.fn.probes).entries l.start l.index;
  best : IsLeast (rank_of l.name l.abi l.caps) (g.P.Probes.state l.fn.probes).entries l.index l.best;
  steps : (g.P.Probes.state l.probes).steps ≤ raised (g.P.Probes.state l.fn.probes).steps (l.index - l.start);
}
