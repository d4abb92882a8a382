-- What agrees for each item of a list agrees for the list.
use Rattle.std.proofs.Common.{◌≡◌, ℕ, List, [], ◌∷◌, ◌++◌, refl, ap, ◌∙◌, Option, Some, None}
use Rattle.std.specs.List.{AllByRecursion, cons_option, filter_map, flat_map}
use Rattle.image_tree.specs.Tree.{Nodes}
use Rattle.seen_tree.proofs.Same.{seen_parts}
use Rattle.seen_tree.specs.Part.{AreSeen}

first_all : {Y : Type 0} (P : Y → Type 0) (o : Option Y) (ys : List Y) → ((y : Y) → o ≡ Some y → P y) → AllByRecursion P ys
    → AllByRecursion P (cons_option o ys)
first_all P None ys here all = all
first_all P (Some y) ys here all = (here y refl, all)

module _ (t part : Nodes) {X Y : Type 0} (looked : X → List (List ℕ)) where
  pub flat_map_seen : (f g : X → List Y) → ((x : X) → AreSeen t part (looked x) → f x ≡ g x)
      → (xs : List X) → AreSeen t part (flat_map looked xs) → flat_map f xs ≡ flat_map g xs
  flat_map_seen f g same [] all = refl
  flat_map_seen f g same (x ∷ xs) all =
      let parts = seen_parts t part (looked x) (flat_map looked xs) all in
      ap (λ ys. ys ++ flat_map f xs) (same x parts.0) ∙ ap (λ ys. g x ++ ys) (flat_map_seen f g same xs parts.1)

  pub filter_map_seen : (f g : X → Option Y) → ((x : X) → AreSeen t part (looked x) → f x ≡ g x)
      → (xs : List X) → AreSeen t part (flat_map looked xs) → filter_map f xs ≡ filter_map g xs
  filter_map_seen f g same [] all = refl
  filter_map_seen f g same (x ∷ xs) all =
      let parts = seen_parts t part (looked x) (flat_map looked xs) all in
      ap (λ y. cons_option y (filter_map f xs)) (same x parts.0) ∙ ap (cons_option (g x)) (filter_map_seen f g same xs parts.1)

  -- what holds for the result of each item holds for all results
  pub filter_map_all : (P : Y → Type 0) (f : X → Option Y) → ((x : X) (y : Y) → AreSeen t part (looked x) → f x ≡ Some y → P y)
      → (xs : List X) → AreSeen t part (flat_map looked xs) → AllByRecursion P (filter_map f xs)
  filter_map_all P f each [] all = tt
  filter_map_all P f each (x ∷ xs) all =
      let parts = seen_parts t part (looked x) (flat_map looked xs) all in
      first_all P (f x) (filter_map f xs) (λ y. each x y parts.0) (filter_map_all P f each xs parts.1)
