-- Lists that are zipped, when one of them has ended.
use Rattle.std.proofs.Common.{◌≡◌, ℕ, List, [], ◌∷◌, ◌++◌, length, refl, ap, sym, ◌∙◌, ◌⊎◌, inl, inr, Option, arith}
use Rattle.std.proofs.lemmas.List.{append-nil}
use Rattle.std.specs.List.{flat_map, zip}
use Rattle.hwcap_dirs.specs.declared.kinds.Place.{Place}
use Rattle.ldso_conf.specs.declared.kinds.Conf.{Conf}
use Rattle.ldso_conf.specs.declared.kinds.Origin.{Origin}
use Rattle.link_plan.specs.declared.kinds.Planned.{Planned}
use Rattle.place_libraries.specs.Library.{Library}
use Rattle.search_listing.specs.Listing.{one_text, origins_after}

none_right : {X Y : Type 0} (xs : List X) (ys : List Y) → ys ≡ [] → zip xs ys ≡ []
none_right [] ys e = refl
none_right (x ∷ xs) [] e = refl
none_right (x ∷ xs) (y ∷ ys) e = absurd (cc)

-- the text of the remaining search directories is empty if either list has ended: the search directories or their best libraries
module _ (front : List ℕ) (conf : Conf) (links : List Planned) (origin : Option Origin) where
  no_place_left : (places : List Place) (bests : List (List Library)) → length places ≡ 0
      → flat_map (one_text front links) (zip places (zip (origins_after conf origin places) bests)) ≡ []
  no_place_left [] bests e = refl
  no_place_left (place ∷ places) bests e = absurd (omega arith)

  no_best_left : (places : List Place) (bests : List (List Library)) → bests ≡ []
      → flat_map (one_text front links) (zip places (zip (origins_after conf origin places) bests)) ≡ []
  no_best_left places bests e =
      ap (flat_map (one_text front links)) (none_right places (zip (origins_after conf origin places) bests) (none_right (origins_after conf origin places) bests e))

  pub nothing_left : {X Y : Type 0} {P : X → Type 0} {Q : Y → Type 0} (out whole : List ℕ) (places : List Place) (bests : List (List Library))
      → ((x : X) × (length places ≡ 0 × P x)) ⊎ ((y : Y) × (bests ≡ [] × Q y))
      → out ++ flat_map (one_text front links) (zip places (zip (origins_after conf origin places) bests)) ≡ whole → out ≡ whole
  nothing_left out whole places bests (inl first) e = sym (append-nil out) ∙ sym (ap (λ text. out ++ text) (no_place_left places bests first.1.0)) ∙ e
  nothing_left out whole places bests (inr second) e = sym (append-nil out) ∙ sym (ap (λ text. out ++ text) (no_best_left places bests second.1.0)) ∙ e
