-- How the code finds whether a link was made: it looks up the link's path in the set of the paths of the links that were made.
use Rattle.std.specs.Prelude.{◌≡◌, ℕ, List}
use Rattle.std.specs.List.{list_any}
use Rattle.std.specs.Str.{bytes_eq}
use Rattle.link_plan.specs.declared.kinds.Planned.{Planned}
use Rattle.search_listing.specs.Listing.{is_made}

-- the set has the paths of these links and no others
abbrev pub ArePathsOf : List Planned → List (List ℕ) → Type 0
ArePathsOf links paths = (path : List ℕ) → list_any (bytes_eq path) paths ≡ is_made links path
