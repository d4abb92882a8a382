use Rattle.std.proofs.Common.{◌≡◌, ◌++◌}
use Rattle.std.specs.List.{flat_map, zip}
use Rattle.std.specs.Option.{option_copied}
use Rattle.search_listing.specs.Listing.{one_text, origins_after, origins_of}
use Rattle.search_listing.proofs.printing.listing.Given as goal

-- the remaining search directories give the rest
abbrev pub invariant-loop-place : goal.invariant-loop-place
invariant-loop-place l =
    l.out.items ++ flat_map (one_text l.front l.links) (zip l.place-iterator.a.rest.now (zip (origins_after l.conf (option_copied l.origin) l.place-iterator.a.rest.now) l.place-iterator.b))
    ≡ flat_map (one_text l.front l.links) (zip l.places (zip (origins_of l.conf l.places) l.bests))
