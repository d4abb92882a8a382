-- The paths of the search directories are short and have no NUL.
use Rattle.std.proofs.Common.{◌≡◌, ◌≤◌, ◌+◌, ℕ, Bool, true, cond, ◌&&◌, nat_le, List, [], ◌∷◌, ◌++◌, length, length-append, refl, ap, sym, subst, ◌∙◌, Option, Some, None, Result, Ok, Err, arith}
use Rattle.std.proofs.lemmas.Bool.{and_from, and_parts}
use Rattle.std.proofs.lemmas.Bool.Decides.{nat_tests}
use Rattle.std.proofs.lemmas.List.Elements.{All-head, All-tail}
use Rattle.std.proofs.lemmas.List.Folds.{list_all-append}
use Rattle.std.specs.List.{All, filter_map, flat_map, list_all}
use Rattle.std.specs.Option.{option_map}
use Rattle.std.specs.Str.{bytes_eq}
use Rattle.lib_types.proofs.SortedPairs.{by_test}
use Rattle.lib_types.specs.Name.{is_name}
use Rattle.lib_types.specs.declared.name.TheConstants.{NAME_MAX}
use Rattle.path_walk.proofs.NoNul.{led_clean}
use Rattle.path_walk.specs.Walk.{resolution}
use Rattle.path_walk.specs.declared.walk.Mode.TheVariants.{Plain}
use Rattle.path_walk.specs.declared.walk.WalkFault.{WalkFault}
use Rattle.image_tree.specs.Node.{has_no_nul}
use Rattle.image_tree.specs.Paths.{folder, join, root}
use Rattle.image_tree.specs.Tree.{Nodes, children_of, is_entry}
use Rattle.image_tree.specs.declared.path.TheConstants.{PATH_MAX}
use Rattle.hwcap_dirs.proofs.Children.{children_named}
use Rattle.hwcap_dirs.proofs.Reals.{all_given, all_left}
use Rattle.hwcap_dirs.specs.Places.{Led, are_spelled, builtin_dirs, dir_at, dir_by, firsts, hwcap_place, hwcaps, is_hidden, is_spelled, kept, leads_elsewhere, led_at, place_of_name, places, places_below, places_of}
use Rattle.hwcap_dirs.specs.declared.kinds.Place.{Place}
use Rattle.hwcap_dirs.specs.declared.kinds.Scope.{Scope}
use Rattle.hwcap_dirs.specs.declared.kinds.Scope.TheVariants.{Image, Only, Root}
use Rattle.hwcap_dirs.specs.declared.kinds.TheConstants.{SPELLED_MAX}

-- ---- sizes

size_few : (name : List ℕ) → is_name name ≡ true → nat_le (length name) NAME_MAX ≡ true
size_few name h = (and_parts _ _ (and_parts _ _ (and_parts _ _ (and_parts _ _ h).0).0).0).1

pub name_short : (name : List ℕ) → is_name name ≡ true → length name ≤ 255
name_short name h =
    let few = size_few name h in
    grind (arith, nat_tests)

folder_size : (p : List ℕ) → length (folder p) ≤ length p + 1
folder_size p = by_test (bytes_eq p root)
    (λ e. rw e (omega arith))
    (λ e. rw e (omega (arith, length-append p root)))

pub joined_size : (p name : List ℕ) → length (join p name) ≤ length p + 1 + length name
joined_size p name = omega (arith, folder_size p, length-append (folder p) name)

abbrev is_short : List ℕ → Bool
is_short text = nat_le (length text) PATH_MAX

each_short : (texts : List (List ℕ)) → All (λ text. length text ≤ PATH_MAX) texts → list_all is_short texts ≡ true
each_short [] all = refl
each_short (text ∷ texts) all =
    let few : length text ≤ PATH_MAX = All-head (λ text. length text ≤ PATH_MAX) text texts all in
    let short : is_short text ≡ true = grind (arith, nat_tests) in
    and_from _ _ short (each_short texts (All-tail (λ text. length text ≤ PATH_MAX) text texts all))

builtin_short : (scope : Scope) → list_all is_short (builtin_dirs scope) ≡ true
builtin_short Image = refl
builtin_short (Root conf) = refl
builtin_short (Only dirs) = refl

-- ---- paths that resolve to directories

module _ (t : Nodes) where
  dir_clean : (text dir : List ℕ) (walk : Result (List ℕ) WalkFault) → resolution t text Plain ≡ walk → dir_by t walk ≡ Some dir → has_no_nul text ≡ true
  dir_clean text dir (Err fault) r e = absurd (cc)
  dir_clean text dir (Ok place) r e = led_clean t Plain text place r

  abbrev is_led : Led → Bool
  is_led led = is_short led.0 && has_no_nul led.0

  led_well : (text : List ℕ) (led : Led) (o : Option (List ℕ)) → is_short text ≡ true → dir_at t text ≡ o → option_map (λ dir. (text, dir)) o ≡ Some led → is_led led ≡ true
  led_well text led None h d e = absurd (cc)
  led_well text led (Some dir) h d e =
      let same : (text, dir) ≡ led = cc in
      subst (λ (l : Led). is_led l ≡ true) same (and_from _ _ h (dir_clean text dir (resolution t text Plain) refl d))

  firsts_well : (leds : List Led) → list_all is_led leds ≡ true → list_all is_led (firsts leds) ≡ true
  firsts_well [] all = refl
  firsts_well (led ∷ leds) all = and_from _ _ (and_parts _ _ all).0 (all_left is_led (leads_elsewhere led) (firsts leds) (firsts_well leds (and_parts _ _ all).1))

  -- ---- the search directories

  below_short : (text name : List ℕ) → is_short text ≡ true → is_name name ≡ true → nat_le (length (join (join text hwcaps) name)) SPELLED_MAX ≡ true
  below_short text name h n =
      let few : length text ≤ PATH_MAX = grind (arith, nat_tests) in
      let size : length (join (join text hwcaps) name) ≤ 4364 = omega (arith, few, name_short name n, joined_size text hwcaps, joined_size (join text hwcaps) name) in
      grind (arith, nat_tests)

  hwcap_well : (text name : List ℕ) (place : Place) (o : Option (List ℕ)) → nat_le (length text) SPELLED_MAX ≡ true → is_name name ≡ true
      → dir_at t text ≡ o → hwcap_place text name o ≡ Some place → is_spelled place ≡ true
  hwcap_well text name place None h n d e = absurd (cc)
  hwcap_well text name place (Some dir) h n d e =
      let made : Place = record { spelled = text; real = dir; cap = Some name } in
      let same : made ≡ place = cc in
      subst (λ (p : Place). is_spelled p ≡ true) same (and_from _ _ (and_from _ _ h (dir_clean text dir (resolution t text Plain) refl d)) n)

  name_well : (text name : List ℕ) (place : Place) → is_short text ≡ true → is_name name ≡ true → place_of_name t (join text hwcaps) name ≡ Some place → is_spelled place ≡ true
  name_well text name place h n e =
      let path = join (join text hwcaps) name in
      by_test (is_hidden name)
      (λ f. let none : None ≡ Some place = sym (ap (λ b. cond b None (hwcap_place path name (dir_at t path))) f) ∙ e in absurd (cc))
      (λ f. hwcap_well path name place (dir_at t path) (below_short text name h n) n refl (sym (ap (λ b. cond b None (hwcap_place path name (dir_at t path))) f) ∙ e))

  module _ (entries : list_all is_entry t ≡ true) where
    below_well : (text : List ℕ) (o : Option (List ℕ)) → is_short text ≡ true → are_spelled (places_below t (join text hwcaps) o) ≡ true
    below_well text None h = refl
    below_well text (Some dir) h =
        all_given is_spelled is_name (place_of_name t (join text hwcaps)) (λ name place n e. name_well text name place h n e) (children_of t dir) (children_named t dir entries)

    place_well : (led : Led) → is_led led ≡ true → are_spelled (places_of t led) ≡ true
    place_well led h =
        let parts = and_parts (is_short led.0) (has_no_nul led.0) h in
        let few : length led.0 ≤ PATH_MAX = grind (arith, nat_tests) in
        let short : nat_le (length led.0) SPELLED_MAX ≡ true = grind (arith, nat_tests) in
        and_from _ _ (and_from _ _ (and_from _ _ short parts.1) refl) (below_well led.0 (dir_at t (join led.0 hwcaps)) parts.0)

    all_well : (leds : List Led) → list_all is_led leds ≡ true → are_spelled (flat_map (places_of t) leds) ≡ true
    all_well [] all = refl
    all_well (led ∷ leds) all =
        let parts = and_parts _ _ all in
        list_all-append is_spelled (places_of t led) (flat_map (places_of t) leds) ∙ and_from _ _ (place_well led parts.0) (all_well leds parts.1)

pub places_are_spelled : (scope : Scope) (t : Nodes) → list_all is_entry t ≡ true → (conf : List (List ℕ)) → All (λ dir. length dir ≤ PATH_MAX) conf
    → are_spelled (places scope t conf) ≡ true
unfolding places
places_are_spelled scope t entries conf short =
    let dirs = conf ++ builtin_dirs scope in
    all_well t entries (kept scope t conf) (firsts_well t (filter_map (led_at t) dirs)
    (all_given (is_led t) is_short (led_at t) (λ text led h e. led_well t text led (dir_at t text) h refl e) dirs
    (list_all-append is_short conf (builtin_dirs scope) ∙ and_from _ _ (each_short conf short) (builtin_short scope))))
