use Rattle.std.proofs.Common.{◌≡◌, ◌++◌}
use Rattle.std.specs.List.{filter_map}
use Rattle.soname_links.specs.Marks.{blocked_for}
use Rattle.soname_links.specs.Plan.{link_for}
use Rattle.soname_links.proofs.surveying.add_links.Given as goal

-- the best libraries that are left give the rest
abbrev pub invariant-loop-best : goal.invariant-loop-best
invariant-loop-best l = record {
  plan : l.found.plan ++ filter_map (link_for l.tree l.at.number l.at.place.now) l.best-iterator ≡ l.fn.found.plan ++ filter_map (link_for l.tree l.at.number l.at.place.now) l.bests;
  blocked : l.found.blocked ++ filter_map (blocked_for l.tree l.at.number l.at.place.now) l.best-iterator ≡ l.fn.found.blocked ++ filter_map (blocked_for l.tree l.at.number l.at.place.now) l.bests;
  mixed : l.found.mixed ≡ l.fn.found.mixed;
}
