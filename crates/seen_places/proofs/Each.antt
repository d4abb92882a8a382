-- Items for which a property holds, and items whose paths were seen.
use Rattle.std.proofs.Common.{◌≡◌, ℕ, Bool, true, false, ◌||◌, List, [], ◌∷◌, ◌++◌, filter, flat_map, map, refl, ap, sym, subst, ◌∙◌, Option, None}
use Rattle.std.proofs.Math.Bool.{or-true}
use Rattle.std.proofs.lemmas.Slice.Eq.{bytes_eq-Decides}
use Rattle.std.specs.List.{AllByRecursion, cons_option, filter_map}
use Rattle.std.specs.Str.{bytes_eq}
use Rattle.lib_types.proofs.SortedPairs.{by_test}
use Rattle.image_tree.specs.Paths.{join}
use Rattle.image_tree.specs.Tree.{Nodes, children_of}
use Rattle.root_folder.specs.Whole.{IsWhole}
use Rattle.string_pool.proofs.InByteOrder.{in_ascending}
use Rattle.string_pool.proofs.Members.{is_in, left_out}
use Rattle.string_pool.specs.Order.{ascending}
use Rattle.seen_tree.proofs.Children.{names_seen}
use Rattle.seen_tree.proofs.Same.{seen_parts}
use Rattle.seen_tree.specs.Part.{AreSeen, IsPart, IsSeen, listed}
use Rattle.lib_types.proofs.SameTexts.{itself}

-- ---- a property of each item

pub all_both : {X : Type 0} (P : X → Type 0) (xs ys : List X) → AllByRecursion P xs → AllByRecursion P ys → AllByRecursion P (xs ++ ys)
all_both P [] ys all more = more
all_both P (x ∷ xs) ys all more = (all.0, all_both P xs ys all.1 more)

pub every : {X : Type 0} (P : X → Type 0) → ((x : X) → P x) → (xs : List X) → AllByRecursion P xs
every P holds [] = tt
every P holds (x ∷ xs) = (holds x, every P holds xs)

module _ (P : List ℕ → Type 0) where
  pub of_all : (xs : List (List ℕ)) (z : List ℕ) → AllByRecursion P xs → is_in xs z ≡ true → P z
  of_all [] z all h = absurd (cc)
  of_all (x ∷ xs) z all h = by_test (bytes_eq z x)
      (λ e. subst P (sym ((bytes_eq-Decides z x).0 e)) all.0)
      (λ e. of_all xs z all.1 (sym (ap (λ b. b || is_in xs z) e) ∙ h))

  for_all : (xs : List (List ℕ)) → ((z : List ℕ) → is_in xs z ≡ true → P z) → AllByRecursion P xs
  for_all [] each = tt
  for_all (x ∷ xs) each = (
    each x (ap (λ b. b || is_in xs x) (itself x)),
    for_all xs (λ z h. each z (ap (λ b. bytes_eq z x || b) h ∙ or-true (bytes_eq z x))),
  )

  -- if it holds for some texts, it holds for them in the order of their bytes
  pub all_ascending : (xs : List (List ℕ)) → AllByRecursion P xs → AllByRecursion P (ascending xs)
  all_ascending xs all = for_all (ascending xs) (λ z h. of_all xs z all (sym (in_ascending xs z) ∙ h))

module _ {X Y : Type 0} where
  pub flat_same : (f g : X → List Y) (xs : List X) → AllByRecursion (λ x. f x ≡ g x) xs → flat_map f xs ≡ flat_map g xs
  flat_same f g [] all = refl
  flat_same f g (x ∷ xs) all = ap (λ ys. ys ++ flat_map f xs) all.0 ∙ ap (λ ys. g x ++ ys) (flat_same f g xs all.1)

  pub map_same : (f g : X → Y) (xs : List X) → AllByRecursion (λ x. f x ≡ g x) xs → map f xs ≡ map g xs
  map_same f g [] all = refl
  map_same f g (x ∷ xs) all = ap (λ y. y ∷ map f xs) all.0 ∙ ap (λ ys. g x ∷ ys) (map_same f g xs all.1)

-- ---- items whose paths were seen

module _ (t part : Nodes) where
  -- if each item gives the same if its paths were seen, so do all items if all their paths were seen
  module _ {X : Type 0} (looked : X → List (List ℕ)) where
    pub each_seen : (P : X → Type 0) → ((x : X) → AreSeen t part (looked x) → P x) → (xs : List X) → AreSeen t part (flat_map looked xs) → AllByRecursion P xs
    each_seen P holds [] all = tt
    each_seen P holds (x ∷ xs) all =
        let parts = seen_parts t part (looked x) (flat_map looked xs) all in
        (holds x parts.0, each_seen P holds xs parts.1)

    pub filter_map_seen : {Y : Type 0} (f g : X → Option Y) → ((x : X) → AreSeen t part (looked x) → f x ≡ g x)
        → (xs : List X) → AreSeen t part (flat_map looked xs) → filter_map f xs ≡ filter_map g xs
    filter_map_seen f g same [] all = refl
    filter_map_seen f g same (x ∷ xs) all =
        let parts = seen_parts t part (looked x) (flat_map looked xs) all in
        ap (λ y. cons_option y (filter_map f xs)) (same x parts.0) ∙ ap (cons_option (g x)) (filter_map_seen f g same xs parts.1)

  -- ---- the names of a directory

  pub seen_at : (d z : List ℕ) (names : List (List ℕ)) → AreSeen t part (map (join d) names) → is_in names z ≡ true → IsSeen t part (join d z)
  seen_at d z [] all h = absurd (cc)
  seen_at d z (name ∷ names) all h = by_test (bytes_eq z name)
      (λ e. subst (λ (x : List ℕ). IsSeen t part (join d x)) (sym ((bytes_eq-Decides z name).0 e)) all.0)
      (λ e. seen_at d z names all.1 (sym (ap (λ b. b || is_in names z) e) ∙ h))

  pub names_same : {Y : Type 0} (f g : List ℕ → Option Y) (d : List ℕ) → ((name : List ℕ) → IsSeen t part (join d name) → f name ≡ g name)
      → (names : List (List ℕ)) → AreSeen t part (map (join d) names) → filter_map f names ≡ filter_map g names
  names_same f g d same [] all = refl
  names_same f g d same (name ∷ names) all =
      ap (λ y. cons_option y (filter_map f names)) (same name all.0) ∙ ap (cons_option (g name)) (names_same f g d same names all.1)

  -- if only the names that pass a test give something, and the names of the tree that pass it give the same, all names do
  module _ (whole : IsWhole t) (is : IsPart t part) (test : List ℕ → Bool) (d : List ℕ) where
    pub children_seen : {Y : Type 0} (f g : List ℕ → Option Y) → ((name : List ℕ) → test name ≡ false → f name ≡ None) → ((name : List ℕ) → test name ≡ false → g name ≡ None)
        → AreSeen t part (listed test t d) → filter_map f (filter test (children_of t d)) ≡ filter_map g (filter test (children_of t d))
        → filter_map f (children_of part d) ≡ filter_map g (children_of t d)
    children_seen f g none nothing all same =
        sym (left_out test f none (children_of part d)) ∙ ap (filter_map f) (names_seen t part whole is test d all) ∙ same ∙ left_out test g nothing (children_of t d)
