-- If the paths of the search directories were seen, the part has the same search directories as the tree.
use Rattle.std.proofs.Common.{◌≡◌, ℕ, false, cond, List, [], ◌∷◌, ◌++◌, filter, flat_map, refl, ap, ◌∙◌, Option, Some, None, Result, Ok, Err}
use Rattle.std.specs.Option.{is_none, option_map}
use Rattle.hwcap_dirs.specs.Places.{Led, absent, builtin_dirs, dir_at, dir_by, firsts, hwcap_place, hwcap_places, hwcaps, is_dir, is_hidden, kept, led_at, place_of_name, places, places_below, places_of}
use Rattle.hwcap_dirs.specs.declared.kinds.Scope.{Scope}
use Rattle.image_tree.specs.Paths.{join}
use Rattle.image_tree.specs.Tree.{Nodes, children_of}
use Rattle.path_walk.specs.Files.{file_at, file_by, is_file}
use Rattle.path_walk.specs.Walk.{resolution}
use Rattle.path_walk.specs.declared.walk.Mode.TheVariants.{Full, Plain}
use Rattle.path_walk.specs.declared.walk.WalkFault.{WalkFault}
use Rattle.root_folder.specs.Whole.{IsWhole}
use Rattle.seen_tree.proofs.Same.{end_seen, kind_seen, seen_parts, text_seen}
use Rattle.seen_tree.specs.Part.{AreSeen, IsPart, IsSeen, listed, looked_by}
use Rattle.seen_places.proofs.Each.{all_both, children_seen, each_seen, filter_map_seen, flat_same}
use Rattle.seen_places.specs.Looked.{below_looked, caps_looked, hwcaps_looked, is_shown, places_looked, texts_looked}
use Rattle.lib_types.proofs.Bools.{not_false}

-- a hidden name is that of no search directory
hidden_none : (t : Nodes) (folder name : List ℕ) → is_shown name ≡ false → place_of_name t folder name ≡ None
hidden_none t folder name h = ap (λ b. cond b None (hwcap_place (join folder name) name (dir_at t (join folder name)))) (not_false (is_hidden name) h)

module _ (t part : Nodes) (whole : IsWhole t) (is : IsPart t part) where
  -- ---- the directory, or the file, that a path resolves to

  dir_end : (text : List ℕ) (r : Result (List ℕ) WalkFault) → AreSeen t part (looked_by t text Plain) → resolution t text Plain ≡ r → dir_by part r ≡ dir_by t r
  dir_end text (Err fault) all e = refl
  dir_end text (Ok place) all e = ap (λ k. cond (is_dir k) (Some place) None) (kind_seen t part whole is place (end_seen t part whole is Plain text place all e))

  pub dir_seen : (text : List ℕ) → AreSeen t part (looked_by t text Plain) → dir_at part text ≡ dir_at t text
  dir_seen text all = ap (dir_by part) (text_seen t part whole is Plain text all).0 ∙ dir_end text (resolution t text Plain) all refl

  file_end : (text : List ℕ) (r : Result (List ℕ) WalkFault) → AreSeen t part (looked_by t text Full) → resolution t text Full ≡ r → file_by part r ≡ file_by t r
  file_end text (Err fault) all e = refl
  file_end text (Ok place) all e = ap (λ k. cond (is_file k) (Some place) None) (kind_seen t part whole is place (end_seen t part whole is Full text place all e))

  pub file_seen : (text : List ℕ) → AreSeen t part (looked_by t text Full) → file_at part text ≡ file_at t text
  file_seen text all = ap (file_by part) (text_seen t part whole is Full text all).0 ∙ file_end text (resolution t text Full) all refl

  -- ---- the directories

  led_seen : (text : List ℕ) → AreSeen t part (looked_by t text Plain) → led_at part text ≡ led_at t text
  led_seen text all = ap (option_map (λ dir. (text, dir))) (dir_seen text all)

  pub kept_seen : (scope : Scope) (conf : List (List ℕ)) → AreSeen t part (texts_looked t (conf ++ builtin_dirs scope)) → kept scope part conf ≡ kept scope t conf
  kept_seen scope conf all = ap firsts (filter_map_seen t part (λ text. looked_by t text Plain) (led_at part) (led_at t) led_seen (conf ++ builtin_dirs scope) all)

  -- ---- the subdirectories of a directory

  name_seen : (folder name : List ℕ) → AreSeen t part (looked_by t (join folder name) Plain) → place_of_name part folder name ≡ place_of_name t folder name
  name_seen folder name all = ap (λ o. cond (is_hidden name) None (hwcap_place (join folder name) name o)) (dir_seen (join folder name) all)

  caps_seen : (folder : List ℕ) (o : Option (List ℕ)) → AreSeen t part (caps_looked t folder o) → places_below part folder o ≡ places_below t folder o
  caps_seen folder None all = refl
  caps_seen folder (Some dir) all =
      let names = filter is_shown (children_of t dir) in
      let parts = seen_parts t part (listed is_shown t dir) (flat_map (λ name. looked_by t (join folder name) Plain) names) all in
      children_seen t part whole is is_shown dir (place_of_name part folder) (place_of_name t folder) (hidden_none part folder) (hidden_none t folder) parts.0
      (filter_map_seen t part (λ name. looked_by t (join folder name) Plain) (place_of_name part folder) (place_of_name t folder) (name_seen folder) names parts.1)

  pub hwcaps_seen : (folder : List ℕ) → AreSeen t part (hwcaps_looked t folder) → hwcap_places part folder ≡ hwcap_places t folder
  hwcaps_seen folder all =
      let parts = seen_parts t part (looked_by t folder Plain) (caps_looked t folder (dir_at t folder)) all in
      ap (places_below part folder) (dir_seen folder parts.0) ∙ caps_seen folder (dir_at t folder) parts.1

  below_seen : (led : Led) → AreSeen t part (below_looked t led) → places_of part led ≡ places_of t led
  below_seen led all = ap (λ more. record { spelled = led.0; real = led.1; cap = None } ∷ more) (hwcaps_seen (join led.0 hwcaps) all)

  -- ---- the search directories

  pub places_seen : (scope : Scope) (conf : List (List ℕ)) → AreSeen t part (places_looked scope t conf) → places scope part conf ≡ places scope t conf
  unfolding places places_looked
  places_seen scope conf all =
      let parts = seen_parts t part (texts_looked t (conf ++ builtin_dirs scope)) (flat_map (below_looked t) (kept scope t conf)) all in
      ap (flat_map (places_of part)) (kept_seen scope conf parts.0)
      ∙ flat_same (places_of part) (places_of t) (kept scope t conf)
      (each_seen t part (below_looked t) (λ led. places_of part led ≡ places_of t led) below_seen (kept scope t conf) parts.1)

  -- ---- the directories that are absent

  absent_each : (conf : List (List ℕ)) → AreSeen t part (texts_looked t conf) → filter (λ text. is_none (dir_at part text)) conf ≡ filter (λ text. is_none (dir_at t text)) conf
  absent_each [] all = refl
  absent_each (text ∷ conf) all =
      let parts = seen_parts t part (looked_by t text Plain) (texts_looked t conf) all in
      let more = filter (λ text. is_none (dir_at part text)) conf in
      ap (λ o. cond (is_none o) (text ∷ more) more) (dir_seen text parts.0)
      ∙ ap (λ rest. cond (is_none (dir_at t text)) (text ∷ rest) rest) (absent_each conf parts.1)

  pub absent_seen : (conf : List (List ℕ)) → AreSeen t part (texts_looked t conf) → absent part conf ≡ absent t conf
  unfolding absent
  absent_seen conf all = absent_each conf all

  -- the conf file's directories are among the paths that are looked up for the search directories
  conf_first : (conf more : List (List ℕ)) → AreSeen t part (texts_looked t (conf ++ more)) → AreSeen t part (texts_looked t conf)
  conf_first [] more all = tt
  conf_first (text ∷ conf) more all =
      let parts = seen_parts t part (looked_by t text Plain) (texts_looked t (conf ++ more)) all in
      all_both (λ q. IsSeen t part q) (looked_by t text Plain) (texts_looked t conf) parts.0 (conf_first conf more parts.1)

  pub conf_seen : (scope : Scope) (conf : List (List ℕ)) → AreSeen t part (places_looked scope t conf) → AreSeen t part (texts_looked t conf)
  unfolding places_looked
  conf_seen scope conf all =
      conf_first conf (builtin_dirs scope) (seen_parts t part (texts_looked t (conf ++ builtin_dirs scope)) (flat_map (below_looked t) (kept scope t conf)) all).0
