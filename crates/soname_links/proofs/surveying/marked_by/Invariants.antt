use Rattle.std.proofs.Common.{◌≡◌, ◌++◌, length}
use Rattle.soname_links.specs.Survey.{blocked_by, by_place_with, links_by, mixed_by}
use Rattle.soname_links.proofs.surveying.marked_by.Given as goal

-- the places that are left give the rest by what is left for them, which is as many items
abbrev pub invariant-loop-place : goal.invariant-loop-place
invariant-loop-place l = record {
  plan : l.found.plan ++ by_place_with (links_by l.tree) l.number l.place-iterator.a.rest.now l.place-iterator.b.a ≡ by_place_with (links_by l.tree) 0 l.dirs.places l.bests;
  blocked : l.found.blocked ++ by_place_with (blocked_by l.tree) l.number l.place-iterator.a.rest.now l.place-iterator.b.a ≡ by_place_with (blocked_by l.tree) 0 l.dirs.places l.bests;
  mixed : l.found.mixed ++ by_place_with mixed_by l.number l.place-iterator.a.rest.now l.place-iterator.b.b ≡ by_place_with mixed_by 0 l.dirs.places l.mixed;
  bests : length l.place-iterator.b.a ≡ length l.place-iterator.a.rest.now;
  sonames : length l.place-iterator.b.b ≡ length l.place-iterator.a.rest.now;
}
