-- If the paths that a pattern looks up were seen, its results in the part are those in the tree.
use Rattle.std.proofs.Common.{◌≡◌, ℕ, Bool, cond, ◌&&◌, not, List, [], ◌∷◌, ◌++◌, filter, map, refl, ap, sym, subst, ◌∙◌, Option, Some, None, Ordering, Result, Ok, Err}
use Rattle.std.specs.BTreeMap.{insert_entry}
use Rattle.std.specs.Cmp.Lexicographic.{slice_cmp}
use Rattle.std.specs.List.{AllByRecursion, filter_map, flat_map, fold}
use Rattle.std.specs.Option.{option_map}
use Rattle.std.specs.Ordering.{match_ordering, nat_cmp}
use Rattle.std.specs.declared.cmp.Ordering.TheVariants.{Less, Equal, Greater}
use Rattle.lib_types.proofs.SortedPairs.{by_test}
use Rattle.lib_types.specs.Name.{slash}
use Rattle.name_order.specs.LibraryName.{is_library_name}
use Rattle.image_tree.specs.Paths.{join}
use Rattle.image_tree.specs.Tree.{Nodes, children_of}
use Rattle.path_walk.specs.Walk.{resolution}
use Rattle.path_walk.specs.declared.walk.Mode.TheVariants.{Plain}
use Rattle.path_walk.specs.declared.walk.WalkFault.{WalkFault}
use Rattle.conf_patterns.specs.Glob.{glob_match}
use Rattle.conf_patterns.specs.Patterns.{Found, base_of, choices, chosen_in, components_of, found_at, go_on, in_byte_order, is_library_link, is_link, is_wild, place_at, place_by, results, texts_by, with_found}
use Rattle.root_folder.specs.Whole.{IsWhole}
use Rattle.seen_tree.proofs.Children.{names_seen}
use Rattle.seen_tree.proofs.Same.{end_seen, kind_seen, seen_parts, text_seen}
use Rattle.seen_tree.specs.Part.{AreSeen, IsPart, IsSeen, looked_by}
use Rattle.conf_views.proofs.Each.{filter_map_all, filter_map_seen, flat_map_seen}
use Rattle.conf_views.specs.Patterns.{choices_looked, listed_in, places_looked, results_looked, texts_looked}

pub both_tests : {X : Type 0} (p q : X → Bool) (xs : List X) → filter (λ x. p x && q x) xs ≡ filter q (filter p xs)
both_tests p q [] = refl
both_tests p q (x ∷ xs) = by_test (p x)
    (λ e. by_test (q x) (λ f. rw (e, f) (ap (λ z. x ∷ z) (both_tests p q xs))) (λ f. rw (e, f) (both_tests p q xs)))
    (λ e. rw e (both_tests p q xs))

-- ---- sorting keeps what holds for each resolved path

module _ (P : List ℕ → Type 0) where
  abbrev AllPlaces : List Found → Type 0
  AllPlaces found = AllByRecursion (λ f. P f.1) found

  placed : (order : Ordering) (e : Found) (es more : List Found) (text place : List ℕ) → P place → AllPlaces (e ∷ es) → AllPlaces more
      → AllPlaces (match_ordering order ((text, place) ∷ e ∷ es) ((e.0, place) ∷ es) (e ∷ more))
  placed Less e es more text place here all rest = (here, all)
  placed Equal e es more text place here all rest = (here, all.1)
  placed Greater e es more text place here all rest = (all.0, rest)

  inserted : (found : List Found) (text place : List ℕ) → P place → AllPlaces found
      → AllPlaces (insert_entry (slice_cmp nat_cmp) found text place)
  inserted [] text place here all = (here, tt)
  inserted (e ∷ es) text place here all =
      let more = insert_entry (slice_cmp nat_cmp) es text place in
      placed (slice_cmp nat_cmp text e.0) e es more text place here all (inserted es text place here all.1)

  sorted : (more found : List Found) → AllPlaces found → AllPlaces more → AllPlaces (fold with_found found more)
  sorted [] found all rest = all
  sorted (f ∷ more) found all rest = sorted more (with_found found f) (inserted found f.0 f.1 rest.0 all) rest.1

-- ---- the results

module _ (t part : Nodes) (whole : IsWhole t) (is : IsPart t part) where
  pub place_seen : (text : List ℕ) → AreSeen t part (looked_by t text Plain) → place_at part text ≡ place_at t text
  place_seen text all = ap place_by (text_seen t part whole is Plain text all).0

  pub found_seen : (text : List ℕ) → AreSeen t part (looked_by t text Plain) → found_at part text ≡ found_at t text
  found_seen text all = ap (option_map (λ place. (text, place))) (place_seen text all)

  -- the resolved path was seen
  pub found_place_seen : (text : List ℕ) (f : Found) → AreSeen t part (looked_by t text Plain) → found_at t text ≡ Some f
      → IsSeen t part f.1
  found_place_seen text f all h = by (resolution t text Plain) refl h
    where
      by : (r : Result (List ℕ) WalkFault) → resolution t text Plain ≡ r → option_map (λ place. (text, place)) (place_by r) ≡ Some f
          → IsSeen t part f.1
      by (Ok place) e h =
          let same : (text, place) ≡ f = cc in
          subst (λ (g : Found). IsSeen t part g.1) same (end_seen t part whole is Plain text place all e)
      by (Err fault) e h = absurd (cc)

  links_seen : (dir : List ℕ) (names : List (List ℕ)) → AreSeen t part (map (join dir) names)
      → filter (λ name. not (is_library_link part dir name)) names ≡ filter (λ name. not (is_library_link t dir name)) names
  links_seen dir [] all = refl
  links_seen dir (name ∷ names) all =
      let rest = filter (λ name. not (is_library_link part dir name)) names in
      ap (λ kind. cond (not (is_library_name name && is_link kind)) (name ∷ rest) rest) (kind_seen t part whole is (join dir name) all.0)
      ∙ ap (λ kept. cond (not (is_library_link t dir name)) (name ∷ kept) kept) (links_seen dir names all.1)

  pub chosen_seen : (component : List ℕ) (o : Option (List ℕ)) → AreSeen t part (listed_in (glob_match component) t o)
      → chosen_in part component o ≡ chosen_in t component o
  chosen_seen component None all = refl
  chosen_seen component (Some dir) all =
      both_tests (glob_match component) (λ name. not (is_library_link part dir name)) (children_of part dir)
      ∙ ap (filter (λ name. not (is_library_link part dir name))) (names_seen t part whole is (glob_match component) dir all)
      ∙ links_seen dir (filter (glob_match component) (children_of t dir)) all.1
      ∙ sym (both_tests (glob_match component) (λ name. not (is_library_link t dir name)) (children_of t dir))

  pub choices_seen : (component text : List ℕ) → AreSeen t part (choices_looked t component text)
      → choices part component text ≡ choices t component text
  choices_seen component text all =
      let first = looked_by t text Plain in
      let names = listed_in (glob_match component) t (place_at t text) in
      by_test (is_wild component)
      (λ e.
      let parts = seen_parts t part first names (subst (AreSeen t part) (ap (λ b. cond b (first ++ names) []) e) all) in
      let chosen = chosen_seen component (place_at t text) parts.1 in
      rw e (ap (chosen_in part component) (place_seen text parts.0) ∙ chosen))
      (λ e. rw e refl)

  pub go_on_seen : (component text : List ℕ) → AreSeen t part (choices_looked t component text)
      → go_on part component text ≡ go_on t component text
  go_on_seen component text all = ap (map (λ name. text ++ slash ∷ name)) (choices_seen component text all)

  pub next_seen : (component : List ℕ) (texts : List (List ℕ)) → AreSeen t part (flat_map (choices_looked t component) texts)
      → flat_map (go_on part component) texts ≡ flat_map (go_on t component) texts
  next_seen component texts all =
      flat_map_seen t part (choices_looked t component) (go_on part component) (go_on t component) (go_on_seen component) texts all

  pub texts_seen : (components texts : List (List ℕ)) → AreSeen t part (texts_looked t texts components)
      → texts_by part texts components ≡ texts_by t texts components
  texts_seen [] texts all = refl
  texts_seen (component ∷ rest) texts all =
      let next = flat_map (go_on t component) texts in
      let parts = seen_parts t part (flat_map (choices_looked t component) texts) (texts_looked t next rest) all in
      ap (λ ys. texts_by part ys rest) (next_seen component texts parts.0) ∙ texts_seen rest next parts.1

  module _ (file pattern : List ℕ) where
    abbrev texts : List (List ℕ)
    texts = texts_by t (base_of file pattern ∷ []) (components_of pattern)

    -- first the paths to expand the pattern, then those to resolve each path
    pub parts_seen : AreSeen t part (results_looked t file pattern)
        → AreSeen t part (texts_looked t (base_of file pattern ∷ []) (components_of pattern)) × AreSeen t part (places_looked t texts)
    unfolding results_looked
    parts_seen all = seen_parts t part (texts_looked t (base_of file pattern ∷ []) (components_of pattern)) (places_looked t texts) all

    -- a pattern has the same results
    pub results_seen : AreSeen t part (results_looked t file pattern) → results part file pattern ≡ results t file pattern
    unfolding results
    results_seen all =
        let parts = parts_seen all in
        ap (λ xs. in_byte_order (filter_map (found_at part) xs)) (texts_seen (components_of pattern) (base_of file pattern ∷ []) parts.0)
        ∙ ap in_byte_order (filter_map_seen t part (λ text. looked_by t text Plain) (found_at part) (found_at t) found_seen texts parts.1)

    -- the path that each result resolves to was seen
    pub results_places_seen : AreSeen t part (results_looked t file pattern)
        → AllByRecursion (λ f. IsSeen t part f.1) (results t file pattern)
    unfolding results
    results_places_seen all =
        let looked : List ℕ → List (List ℕ) = λ text. looked_by t text Plain in
        let IsHere : Found → Type 0 = λ f. IsSeen t part f.1 in
        let each = filter_map_all t part looked IsHere (found_at t) (λ text f. found_place_seen text f) texts (parts_seen all).1 in
        sorted (IsSeen t part) (filter_map (found_at t) texts) [] tt each
