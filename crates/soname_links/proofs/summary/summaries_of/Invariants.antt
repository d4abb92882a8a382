use Rattle.std.proofs.Common.{◌≡◌, ◌++◌, map}
use Rattle.place_libraries.specs.Best.{bests}
use Rattle.soname_links.specs.Marks.{mixed_among}
use Rattle.soname_links.proofs.summary.summaries_of.Given as goal

-- the folders that are left give the rest
abbrev pub invariant-loop-libraries : goal.invariant-loop-libraries
invariant-loop-libraries l = record {
  bests : l.found.bests.items ++ map bests l.libraries-iterator.rest.items ≡ map bests l.fn.libraries.items;
  mixed : l.found.mixed.items ++ map mixed_among l.libraries-iterator.rest.items ≡ map mixed_among l.fn.libraries.items;
}
