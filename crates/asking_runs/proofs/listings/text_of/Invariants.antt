use Rattle.std.proofs.Common.{◌≡◌, ◌++◌, drop}
use Rattle.std.specs.List.{flat_map}
use Rattle.asking_runs.specs.Listings.{part}
use Rattle.asking_runs.proofs.listings.text_of.Given as goal

-- the text so far and the parts of the remaining listings are the whole text
abbrev pub invariant-loop-listing : goal.invariant-loop-listing
invariant-loop-listing l = l.text.items ++ flat_map (part l.several) (drop l.listing-index l.listings) ≡ flat_map (part l.several) l.listings
