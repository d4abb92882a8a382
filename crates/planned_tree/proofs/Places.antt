-- Libraries are looked for in the same places in trees that are alike.
use Rattle.std.proofs.Common.{◌≡◌, ℕ, Bool, true, false, cond, List, [], ◌∷◌, ◌++◌, filter, refl, ap, sym, ◌∙◌, Option, Some, None, Result, Ok, Err}
use Rattle.std.proofs.lemmas.Bool.{and_parts}
use Rattle.std.specs.List.{cons_option, filter_map, flat_map, list_all}
use Rattle.std.specs.Option.{option_map}
use Rattle.hwcap_dirs.proofs.Children.{children_named}
use Rattle.hwcap_dirs.specs.Places.{builtin_dirs, dir_at, dir_by, firsts, hwcap_place, hwcap_places, hwcaps, is_dir, is_hidden, kept, led_at, place_of_name, places, places_below, places_of}
use Rattle.hwcap_dirs.specs.declared.kinds.Scope.{Scope}
use Rattle.lib_types.proofs.SortedPairs.{by_test}
use Rattle.lib_types.specs.Name.{is_name}
use Rattle.name_order.specs.LibraryName.{is_library_name}
use Rattle.path_walk.specs.Walk.{resolution}
use Rattle.path_walk.specs.declared.walk.Mode.TheVariants.{Plain}
use Rattle.path_walk.specs.declared.walk.WalkFault.{WalkFault}
use Rattle.image_tree.specs.Paths.{join}
use Rattle.image_tree.specs.Tree.{Nodes, IsTree, children_of, kind_at}
use Rattle.image_tree.specs.declared.tree.Kind.{Kind}
use Rattle.image_tree.specs.declared.tree.Kind.TheVariants as kinds
use Rattle.conf_patterns.specs.Patterns.{is_link}
use Rattle.planned_tree.proofs.Agree.{agree}
use Rattle.planned_tree.proofs.Alike.{IsAlike, same_dir}
use Rattle.planned_tree.proofs.Children.{children_kept, is_kept, same_kept}
use Rattle.planned_tree.proofs.Ends.{link_not_found}
use Rattle.planned_tree.proofs.Walks.{same_place}
use Rattle.lib_types.proofs.Bools.{not_false}

-- ---- names that give nothing

-- names that give nothing may be left out
names_left : {Y : Type 0} (keep : List ℕ → Bool) (f : List ℕ → Option Y) → ((name : List ℕ) → is_name name ≡ true → keep name ≡ false → f name ≡ None)
    → (names : List (List ℕ)) → list_all is_name names ≡ true → filter_map f (filter keep names) ≡ filter_map f names
names_left keep f none [] all = refl
names_left keep f none (name ∷ names) all =
    let parts = and_parts (is_name name) (list_all is_name names) all in
    by_test (keep name)
    (λ e. rw e (ap (cons_option (f name)) (names_left keep f none names parts.1)))
    (λ e. rw (e, none name parts.0 e) (names_left keep f none names parts.1))

link_is : (k : Kind) → is_link k ≡ true → k ≡ kinds.Link
link_is kinds.Link h = refl
link_is kinds.Absent h = absurd (cc)
link_is kinds.File h = absurd (cc)
link_is kinds.Dir h = absurd (cc)

module _ (t : Nodes) (tree : IsTree t) (folder dir : List ℕ) (leads : dir_at t folder ≡ Some dir) where
  led_by : (r : Result (List ℕ) WalkFault) → dir_by t r ≡ Some dir → (r ≡ Ok dir) × (is_dir (kind_at t dir) ≡ true)
  led_by (Err fault) h = absurd (cc)
  led_by (Ok place) h = by_test (is_dir (kind_at t place))
      (λ e.
      let found : Some place ≡ Some dir = sym (ap (λ b. cond b (Some place) None) e) ∙ h in
      let same : place ≡ dir = cc in
      (ap (λ p. Ok p) same, sym (ap (λ p. is_dir (kind_at t p)) same) ∙ e))
      (λ e. let none : None ≡ Some dir = sym (ap (λ b. cond b (Some place) None) e) ∙ h in absurd (cc))

  -- the name of a link with a library name is that of no place
  no_place : (name : List ℕ) → is_name name ≡ true → is_kept t dir name ≡ false → place_of_name t folder name ≡ None
  no_place name named gone =
      let led = led_by (resolution t folder Plain) leads in
      let parts = and_parts (is_library_name name) (is_link (kind_at t (join dir name))) (not_false _ gone) in
      let not_found = link_not_found t folder dir name tree named parts.0 led.0 led.1 (link_is _ parts.1) in
      let none : hwcap_place (join folder name) name (dir_at t (join folder name)) ≡ None = ap (λ r. hwcap_place (join folder name) name (dir_by t r)) not_found in
      by_test (is_hidden name) (λ e. rw e refl) (λ e. rw e none)

  below_kept : filter_map (place_of_name t folder) (children_kept t dir) ≡ filter_map (place_of_name t folder) (children_of t dir)
  below_kept = names_left (is_kept t dir) (place_of_name t folder) no_place (children_of t dir) (children_named t dir tree.entries)

-- ---- the places

module _ (t new : Nodes) (tree : IsTree t) (after : IsTree new) (alike : IsAlike t new) where
  dir_same : (text : List ℕ) → dir_at new text ≡ dir_at t text
  dir_same text = ap (dir_by new) (same_place t new alike text) ∙ by (resolution t text Plain)
    where
      by : (r : Result (List ℕ) WalkFault) → dir_by new r ≡ dir_by t r
      by (Err fault) = refl
      by (Ok place) = ap (λ b. cond b (Some place) None) (same_dir t new alike place)

  named_same : (folder : List ℕ) → place_of_name new folder ≡ place_of_name t folder
  named_same folder = agree (place_of_name new folder) (place_of_name t folder) (λ name.
      ap (λ o. cond (is_hidden name) None (hwcap_place (join folder name) name o)) (dir_same (join folder name)))

  below_same : (folder : List ℕ) (o : Option (List ℕ)) → dir_at t folder ≡ o → places_below new folder o ≡ places_below t folder o
  below_same folder None e = refl
  below_same folder (Some dir) e =
      sym (below_kept new after folder dir (dir_same folder ∙ e))
      ∙ ap (filter_map (place_of_name new folder)) (same_kept t new tree after alike dir)
      ∙ ap (λ f. filter_map f (children_kept t dir)) (named_same folder)
      ∙ below_kept t tree folder dir e

  hwcaps_same : (folder : List ℕ) → hwcap_places new folder ≡ hwcap_places t folder
  hwcaps_same folder = ap (places_below new folder) (dir_same folder) ∙ below_same folder (dir_at t folder) refl

  of_same : places_of new ≡ places_of t
  of_same = agree (places_of new) (places_of t) (λ led. ap (λ more. record { spelled = led.0; real = led.1; cap = None } ∷ more) (hwcaps_same (join led.0 hwcaps)))

  led_same : led_at new ≡ led_at t
  led_same = agree (led_at new) (led_at t) (λ text. ap (option_map (λ dir. (text, dir))) (dir_same text))

  pub same_places : (scope : Scope) (conf : List (List ℕ)) → places scope new conf ≡ places scope t conf
  unfolding places
  same_places scope conf =
      ap (λ f. flat_map f (kept scope new conf)) of_same
      ∙ ap (λ f. flat_map (places_of t) (firsts (filter_map f (conf ++ builtin_dirs scope)))) led_same
