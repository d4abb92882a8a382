use Rattle.std.proofs.Common.{◌≡◌, ℕ, List, ◌++◌, map}
use Rattle.std.specs.List.{filter_map}
use Rattle.place_libraries.specs.Best.{bests}
use Rattle.soname_links.specs.Marks.{mixed_among}
use Rattle.soname_links.specs.Survey.{mixed_soname}
use Rattle.soname_links.specs.declared.groups.Group.{Group}
use Rattle.soname_links.proofs.summary.summary_of.Given as goal

-- the sonames that are left give the rest
abbrev pub invariant-loop-group : goal.invariant-loop-group
invariant-loop-group l = record {
  bests : l.bests ++ map (λ (e : List ℕ × Group). e.1.best) l.group-iterator.rest.items ≡ bests l.fn.libraries;
  mixed : l.mixed ++ filter_map mixed_soname l.group-iterator.rest.items ≡ mixed_among l.fn.libraries;
}
