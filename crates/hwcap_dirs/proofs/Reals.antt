-- The search directories are directories of the tree.
use Rattle.std.proofs.Common.{◌≡◌, ℕ, Bool, true, false, cond, List, [], ◌∷◌, ◌++◌, refl, ap, sym, subst, ◌∙◌, Option, Some, None, Result, Ok, Err}
use Rattle.std.proofs.lemmas.Bool.{and_from, and_parts}
use Rattle.std.proofs.lemmas.List.Folds.{list_all-append}
use Rattle.std.specs.List.{cons_option, filter, filter_map, flat_map, list_all}
use Rattle.std.specs.Option.{option_map}
use Rattle.lib_types.proofs.SortedPairs.{by_test}
use Rattle.image_tree.specs.Paths.{join}
use Rattle.path_walk.specs.Walk.{resolution}
use Rattle.path_walk.specs.declared.walk.Mode.TheVariants.{Plain}
use Rattle.path_walk.specs.declared.walk.WalkFault.{WalkFault}
use Rattle.image_tree.specs.Tree.{Nodes, kind_at, children_of}
use Rattle.hwcap_dirs.specs.Places.{Led, are_dirs, builtin_dirs, dir_at, dir_by, firsts, hwcap_place, hwcaps, is_dir, is_hidden, kept, leads_elsewhere, led_at, place_of_name, places, places_below, places_of}
use Rattle.hwcap_dirs.specs.declared.kinds.Place.{Place}
use Rattle.hwcap_dirs.specs.declared.kinds.Scope.{Scope}

-- ---- tests of all items

module _ {X Y : Type 0} (p : Y → Bool) (q : X → Bool) (f : X → Option Y) where
  -- if all items pass `q`, their results pass `p`
  pub all_given : ((x : X) (y : Y) → q x ≡ true → f x ≡ Some y → p y ≡ true) → (xs : List X) → list_all q xs ≡ true → list_all p (filter_map f xs) ≡ true
  all_given h [] all = refl
  all_given h (x ∷ xs) all = elim (f x) as (λ o. f x ≡ o → list_all p (cons_option o (filter_map f xs)) ≡ true) [
    | None ↦ λ e. all_given h xs (and_parts _ _ all).1
    | Some y ↦ λ e. and_from _ _ (h x y (and_parts _ _ all).0 e) (all_given h xs (and_parts _ _ all).1)
  ] refl

abbrev pub any_item : {X : Type 0} → X → Bool
any_item x = true

pub all_items : {X : Type 0} (xs : List X) → list_all any_item xs ≡ true
all_items [] = refl
all_items (x ∷ xs) = all_items xs

pub all_left : {X : Type 0} (p q : X → Bool) (xs : List X) → list_all p xs ≡ true → list_all p (filter q xs) ≡ true
all_left p q [] all = refl
all_left p q (x ∷ xs) all = elim (q x) as (λ b. list_all p (cond b (x ∷ filter q xs) (filter q xs)) ≡ true)
    [ true ↦ and_from _ _ (and_parts _ _ all).0 (all_left p q xs (and_parts _ _ all).1) | false ↦ all_left p q xs (and_parts _ _ all).1 ]

-- ---- the directories

module _ (t : Nodes) where
  dir_found : (walk : Result (List ℕ) WalkFault) (dir : List ℕ) → dir_by t walk ≡ Some dir → is_dir (kind_at t dir) ≡ true
  dir_found (Err fault) dir e = absurd (cc)
  dir_found (Ok place) dir e = by_test (is_dir (kind_at t place))
      (λ h.
      let found : Some place ≡ Some dir = sym (ap (λ b. cond b (Some place) None) h) ∙ e in
      let same : place ≡ dir = cc in subst (λ (p : List ℕ). is_dir (kind_at t p) ≡ true) same h)
      (λ h. let none : None ≡ Some dir = sym (ap (λ b. cond b (Some place) None) h) ∙ e in absurd (cc))

  abbrev leads_to_dir : Led → Bool
  leads_to_dir led = is_dir (kind_at t led.1)

  led_to : (text : List ℕ) (led : Led) (o : Option (List ℕ)) → dir_at t text ≡ o → option_map (λ dir. (text, dir)) o ≡ Some led → leads_to_dir led ≡ true
  led_to text led None d e = absurd (cc)
  led_to text led (Some dir) d e =
      let same : (text, dir) ≡ led = cc in
      subst (λ (l : Led). leads_to_dir l ≡ true) same (dir_found (resolution t text Plain) dir d)

  firsts_lead : (leds : List Led) → list_all leads_to_dir leds ≡ true → list_all leads_to_dir (firsts leds) ≡ true
  firsts_lead [] all = refl
  firsts_lead (led ∷ leds) all =
      and_from _ _ (and_parts _ _ all).0 (all_left leads_to_dir (leads_elsewhere led) (firsts leds) (firsts_lead leds (and_parts _ _ all).1))

  -- ---- the search directories

  abbrev at_dir : Place → Bool
  at_dir place = is_dir (kind_at t place.real)

  hwcap_here : (text name : List ℕ) (place : Place) (o : Option (List ℕ)) → dir_at t text ≡ o → hwcap_place text name o ≡ Some place → at_dir place ≡ true
  hwcap_here text name place None d e = absurd (cc)
  hwcap_here text name place (Some dir) d e =
      let made : Place = record { spelled = text; real = dir; cap = Some name } in
      let same : made ≡ place = cc in
      subst (λ (p : Place). at_dir p ≡ true) same (dir_found (resolution t text Plain) dir d)

  name_here : (folder name : List ℕ) (place : Place) → place_of_name t folder name ≡ Some place → at_dir place ≡ true
  name_here folder name place e = by_test (is_hidden name)
      (λ h. let none : None ≡ Some place = sym (ap (λ b. cond b None (hwcap_place (join folder name) name (dir_at t (join folder name)))) h) ∙ e in absurd (cc))
      (λ h. hwcap_here (join folder name) name place (dir_at t (join folder name)) refl (sym (ap (λ b. cond b None (hwcap_place (join folder name) name (dir_at t (join folder name)))) h) ∙ e))

  below_here : (folder : List ℕ) (o : Option (List ℕ)) → are_dirs t (places_below t folder o) ≡ true
  below_here folder None = refl
  below_here folder (Some dir) = all_given at_dir any_item (place_of_name t folder) (λ name place any e. name_here folder name place e) (children_of t dir) (all_items (children_of t dir))

  all_here : (leds : List Led) → list_all leads_to_dir leds ≡ true → are_dirs t (flat_map (places_of t) leds) ≡ true
  all_here [] all = refl
  all_here (led ∷ leds) all =
      let parts = and_parts _ _ all in
      list_all-append at_dir (places_of t led) (flat_map (places_of t) leds)
      ∙ and_from _ _ (and_from _ _ parts.0 (below_here (join led.0 hwcaps) (dir_at t (join led.0 hwcaps)))) (all_here leds parts.1)

pub places_are_dirs : (scope : Scope) (t : Nodes) (conf : List (List ℕ)) → are_dirs t (places scope t conf) ≡ true
unfolding places
places_are_dirs scope t conf =
    let dirs = conf ++ builtin_dirs scope in
    all_here t (kept scope t conf) (firsts_lead t (filter_map (led_at t) dirs)
    (all_given (leads_to_dir t) any_item (led_at t) (λ text led any e. led_to t text led (dir_at t text) refl e) dirs (all_items dirs)))
