-- Places that are gone over with what there is for each.
use Rattle.std.proofs.Common.{◌≡◌, ℕ, ◌+◌, List, [], ◌∷◌, ◌++◌, map, refl, ap}
use Rattle.hwcap_dirs.specs.declared.kinds.Place.{Place}
use Rattle.library_files.specs.Places.{by_place}
use Rattle.soname_links.specs.Survey.{by_place_with}

-- what they give by items that are made of them
pub by_items_made : {X A : Type 0} (gives : ℕ → Place → X → List A) (item : Place → X) (number : ℕ) (places : List Place)
    → by_place_with gives number places (map item places) ≡ by_place (λ n place. gives n place (item place)) number places
by_items_made gives item number [] = refl
by_items_made gives item number (place ∷ places) = ap (λ ys. gives number place (item place) ++ ys) (by_items_made gives item (number + 1) places)
