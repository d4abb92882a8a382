use Rattle.std.proofs.Common.{◌≡◌, ◌||◌, ℕ, List, drop}
use Rattle.std.specs.List.{list_any}
use Rattle.std.specs.Str.{bytes_eq}
use Rattle.search_listing.specs.Listing.{is_made}
use Rattle.search_listing.proofs.made.Made.of.Given as goal

-- a link is in the set so far or among the remaining links exactly if it was made
abbrev pub invariant-loop-link : goal.invariant-loop-link
invariant-loop-link l = (path : List ℕ) → (list_any (bytes_eq path) l.paths || is_made (drop l.link-index l.links) path) ≡ is_made l.links path
