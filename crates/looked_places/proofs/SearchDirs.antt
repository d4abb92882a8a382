-- The search directories, while the directory is looked at.
use Rattle.std.proofs.Common.{◌≡◌, ℕ, true, false, cond, List, [], ◌∷◌, ◌++◌, append_assoc, append-nil, filter, flat_map, refl, ap, sym, subst, ◌∙◌, Option, Some, None}
use Rattle.std.proofs.lemmas.List.Concat.{flat_map-append}
use Rattle.std.specs.List.{cons_option, filter_map}
use Rattle.std.specs.Option.{is_none}
use Rattle.lib_types.proofs.SortedPairs.{by_test}
use Rattle.hwcap_dirs.specs.Places.{Led, builtin_dirs, dir_at, hwcap_place, hwcap_places, hwcaps, is_hidden, kept, place_of_name, places, places_below, places_of}
use Rattle.hwcap_dirs.specs.declared.kinds.Place.{Place}
use Rattle.hwcap_dirs.specs.declared.kinds.Scope.{Scope}
use Rattle.image_tree.specs.Paths.{join}
use Rattle.image_tree.specs.Tree.{Nodes, children_of}
use Rattle.path_walk.specs.declared.walk.Mode.TheVariants.{Plain}
use Rattle.root_folder.specs.Folder.{FolderState}
use Rattle.seen_places.proofs.Places.{dir_seen, kept_seen}
use Rattle.seen_places.specs.Looked.{below_looked, caps_looked, hwcaps_looked, is_shown, places_looked, texts_looked}
use Rattle.seen_tree.specs.Part.{AreSeen, dirs_at, listed, looked_by}
use Rattle.tree_face.specs.Known.{IfKnown}
use Rattle.looked_tree.proofs.Loads.{are_now_seen, begins, both, known_all, known_both, known_now, same_asked}
use Rattle.looked_tree.specs.Looked.{HasLooked, IsLookedOf, Loads, Looked}
use Rattle.looked_places.specs.Listed.{below_listed, caps_listed, places_listed}
use Rattle.looked_places.specs.Plain.{plain_listed, plain_looked}

-- ---- a `glibc-hwcaps` directory

module _ (below : List ℕ) where
  abbrev Caps : FolderState → FolderState → Looked → Looked → Type 0
  Caps a b x y = Loads (λ t. hwcaps_looked t below) (λ t. caps_listed t (dir_at t below)) a b x y

  module _ (a b : FolderState) (x y : Looked) (first : Loads (λ t. looked_by t below Plain) (λ t. []) a b x y) where
    dir_now : (t : Nodes) → HasLooked t x y (looked_by t below Plain) [] [] [] → dir_at y.seen.part below ≡ dir_at t below
    dir_now t has = dir_seen t y.seen.part has.known.seen.whole has.known.seen.part below (are_now_seen t x y (looked_by t below Plain) [] has)

    -- what is known of the directory
    dirs_known : (o : Option (List ℕ)) → dir_at y.seen.part below ≡ o → IfKnown a.contents (λ k. IsLookedOf k.now x → dir_at k.now below ≡ o)
    dirs_known o e = known_both a.contents (λ k. IsLookedOf k.now x → HasLooked k.now x y (looked_by k.now below Plain) [] [] []) (λ k. Unit {0})
        (λ k. IsLookedOf k.now x → dir_at k.now below ≡ o)
        (λ k has u is. sym (dir_now k.now (has is)) ∙ e) first.looks (known_all a.contents (λ k. Unit {0}) (λ k. tt))

    pub caps_none : dir_at y.seen.part below ≡ None → Caps a b x y
    caps_none e = same_asked (λ t. looked_by t below Plain) (λ t. []) (λ t. hwcaps_looked t below) (λ t. caps_listed t (dir_at t below)) a b x y first
        (known_both a.contents (λ k. IsLookedOf k.now x → dir_at k.now below ≡ None) (λ k. Unit {0})
        (λ k. IsLookedOf k.now x → HasLooked k.now x y (looked_by k.now below Plain) [] [] []
        → (hwcaps_looked k.now below ≡ looked_by k.now below Plain) × (caps_listed k.now (dir_at k.now below) ≡ []))
        (λ k g u is has. (
          ap (λ o. looked_by k.now below Plain ++ caps_looked k.now below o) (g is) ∙ append-nil (looked_by k.now below Plain),
          ap (caps_listed k.now) (g is),
        ))
        (dirs_known None e) (known_all a.contents (λ k. Unit {0}) (λ k. tt)))

    module _ (dir : List ℕ) (e : dir_at y.seen.part below ≡ Some dir) (c d : FolderState) (z w : Looked) (names : List (List ℕ))
        (next : Loads (λ t. listed is_shown t dir) (λ t. dirs_at t dir) b c y z)
        (are : IfKnown b.contents (λ k. IsLookedOf k.now y → names ≡ filter is_shown (children_of k.now dir)))
        (last : Loads (λ t. flat_map (λ name. looked_by t (join below name) Plain) names) (λ t. []) c d z w) where
      two : Loads (λ t. looked_by t below Plain ++ listed is_shown t dir) (λ t. [] ++ dirs_at t dir) a c x z
      two = both (λ t. looked_by t below Plain) (λ t. listed is_shown t dir) (λ t. []) (λ t. dirs_at t dir) a b c x y z first next

      three : Loads (λ t. (looked_by t below Plain ++ listed is_shown t dir) ++ flat_map (λ name. looked_by t (join below name) Plain) names) (λ t. ([] ++ dirs_at t dir) ++ []) a d x w
      three = both (λ t. looked_by t below Plain ++ listed is_shown t dir) (λ t. flat_map (λ name. looked_by t (join below name) Plain) names)
          (λ t. [] ++ dirs_at t dir) (λ t. []) a c d x z w two last

      names_known : IfKnown a.contents (λ k. IsLookedOf k.now x → (dir_at k.now below ≡ Some dir) × (names ≡ filter is_shown (children_of k.now dir)))
      names_known = known_now (λ t. looked_by t below Plain) (λ t. []) (λ t. []) (λ t. []) a b x y
          (λ k. dir_at k.now below ≡ Some dir) (λ k. names ≡ filter is_shown (children_of k.now dir))
          (λ k. (dir_at k.now below ≡ Some dir) × (names ≡ filter is_shown (children_of k.now dir))) first (λ k p q. (p, q)) (dirs_known (Some dir) e) are

      same_paths : (t : Nodes) → dir_at t below ≡ Some dir → names ≡ filter is_shown (children_of t dir)
          → hwcaps_looked t below ≡ (looked_by t below Plain ++ listed is_shown t dir) ++ flat_map (λ name. looked_by t (join below name) Plain) names
      same_paths t there are =
          ap (λ o. looked_by t below Plain ++ caps_looked t below o) there
          ∙ ap (λ xs. looked_by t below Plain ++ (listed is_shown t dir ++ flat_map (λ name. looked_by t (join below name) Plain) xs)) (sym are)
          ∙ sym (append_assoc (looked_by t below Plain) (listed is_shown t dir) (flat_map (λ name. looked_by t (join below name) Plain) names))

      pub caps_some : Caps a d x w
      caps_some = same_asked (λ t. (looked_by t below Plain ++ listed is_shown t dir) ++ flat_map (λ name. looked_by t (join below name) Plain) names) (λ t. ([] ++ dirs_at t dir) ++ [])
          (λ t. hwcaps_looked t below) (λ t. caps_listed t (dir_at t below)) a d x w three
          (known_both a.contents (λ k. IsLookedOf k.now x → (dir_at k.now below ≡ Some dir) × (names ≡ filter is_shown (children_of k.now dir))) (λ k. Unit {0})
          (λ k. IsLookedOf k.now x → HasLooked k.now x w ((looked_by k.now below Plain ++ listed is_shown k.now dir) ++ flat_map (λ name. looked_by k.now (join below name) Plain) names) []
          (([] ++ dirs_at k.now dir) ++ []) []
          → (hwcaps_looked k.now below ≡ (looked_by k.now below Plain ++ listed is_shown k.now dir) ++ flat_map (λ name. looked_by k.now (join below name) Plain) names)
          × (caps_listed k.now (dir_at k.now below) ≡ ([] ++ dirs_at k.now dir) ++ []))
          (λ k g u is has. (
            same_paths k.now (g is).0 (g is).1,
            ap (caps_listed k.now) (g is).0 ∙ sym (append-nil (dirs_at k.now dir)),
          ))
          names_known (known_all a.contents (λ k. Unit {0}) (λ k. tt)))

-- ---- a search directory

pub plain_place : (place : Place) (a b : FolderState) (x y : Looked) → is_none place.cap ≡ true
    → Loads (λ t. hwcaps_looked t (join place.spelled hwcaps)) (λ t. caps_listed t (dir_at t (join place.spelled hwcaps))) a b x y
    → Loads (λ t. plain_looked t place) (λ t. plain_listed t place) a b x y
plain_place place a b x y e loads = rw e loads

pub other_place : (place : Place) (a : FolderState) (x : Looked) → is_none place.cap ≡ false → Loads (λ t. plain_looked t place) (λ t. plain_listed t place) a a x x
other_place place a x e = rw e (begins (λ t. []) (λ t. []) a x)

-- ---- all search directories

module _ (t part : Nodes) where
  -- a `glibc-hwcaps` subdirectory gives nothing
  cap_none : {X : Type 0} (f : Place → List X) (folder name : List ℕ) (o : Option (List ℕ)) → ((place : Place) → is_none place.cap ≡ false → f place ≡ [])
      → flat_map f (cons_option (cond (is_hidden name) None (hwcap_place (join folder name) name o)) []) ≡ []
  cap_none f folder name o none = by_test (is_hidden name)
      (λ h. rw h refl)
      (λ h. rw h (by o))
    where
      by : (o : Option (List ℕ)) → flat_map f (cons_option (hwcap_place (join folder name) name o) []) ≡ []
      by None = refl
      by (Some dir) = ap (λ xs. xs ++ []) (none (record { spelled = join folder name; real = dir; cap = Some name }) refl)

  caps_give_none : {X : Type 0} (f : Place → List X) (folder : List ℕ) (names : List (List ℕ)) → ((place : Place) → is_none place.cap ≡ false → f place ≡ [])
      → flat_map f (filter_map (place_of_name part folder) names) ≡ []
  caps_give_none f folder [] none = refl
  caps_give_none f folder (name ∷ names) none =
      by (place_of_name part folder name) (cap_none f folder name (dir_at part (join folder name)) none) (caps_give_none f folder names none)
    where
      by : (o : Option Place) → flat_map f (cons_option o []) ≡ [] → flat_map f (filter_map (place_of_name part folder) names) ≡ []
          → flat_map f (cons_option o (filter_map (place_of_name part folder) names)) ≡ []
      by None h rest = rest
      by (Some place) h rest = ap (λ xs. xs ++ flat_map f (filter_map (place_of_name part folder) names)) (sym (append-nil (f place)) ∙ h) ∙ rest

  below_none : {X : Type 0} (f : Place → List X) (folder : List ℕ) (o : Option (List ℕ)) → ((place : Place) → is_none place.cap ≡ false → f place ≡ [])
      → flat_map f (places_below part folder o) ≡ []
  below_none f folder None none = refl
  below_none f folder (Some dir) none = caps_give_none f folder (children_of part dir) none

  plain_none : (place : Place) → is_none place.cap ≡ false → plain_looked t place ≡ []
  plain_none place e = rw e refl

  plain_lists_none : (place : Place) → is_none place.cap ≡ false → plain_listed t place ≡ []
  plain_lists_none place e = rw e refl

  each_led : (leds : List Led) → (flat_map (plain_looked t) (flat_map (places_of part) leds) ≡ flat_map (below_looked t) leds)
      × (flat_map (plain_listed t) (flat_map (places_of part) leds) ≡ flat_map (below_listed t) leds)
  each_led [] = (refl, refl)
  each_led (led ∷ leds) =
      let folder = join led.0 hwcaps in
      let more = hwcap_places part folder in
      let rest = each_led leds in (
        ap (λ xs. hwcaps_looked t folder ++ xs)
            (flat_map-append (plain_looked t) more (flat_map (places_of part) leds)
            ∙ ap (λ xs. xs ++ flat_map (plain_looked t) (flat_map (places_of part) leds)) (below_none (plain_looked t) folder (dir_at part folder) plain_none) ∙ rest.0),
        ap (λ xs. caps_listed t (dir_at t folder) ++ xs)
            (flat_map-append (plain_listed t) more (flat_map (places_of part) leds)
            ∙ ap (λ xs. xs ++ flat_map (plain_listed t) (flat_map (places_of part) leds)) (below_none (plain_listed t) folder (dir_at part folder) plain_lists_none) ∙ rest.1),
      )

  plain_places : (scope : Scope) (conf : List (List ℕ)) → (flat_map (plain_looked t) (places scope part conf) ≡ flat_map (below_looked t) (kept scope part conf))
      × (flat_map (plain_listed t) (places scope part conf) ≡ flat_map (below_listed t) (kept scope part conf))
  unfolding places
  plain_places scope conf = each_led (kept scope part conf)

module _ (scope : Scope) (conf : List (List ℕ)) (a b c d : FolderState) (x y z w : Looked)
    (first : Loads (λ t. texts_looked t conf) (λ t. []) a b x y)
    (next : Loads (λ t. texts_looked t (builtin_dirs scope)) (λ t. []) b c y z)
    (last : Loads (λ t. flat_map (plain_looked t) (places scope z.seen.part conf)) (λ t. flat_map (plain_listed t) (places scope z.seen.part conf)) c d z w) where
  dirs_first : Loads (λ t. texts_looked t conf ++ texts_looked t (builtin_dirs scope)) (λ t. [] ++ []) a c x z
  dirs_first = both (λ t. texts_looked t conf) (λ t. texts_looked t (builtin_dirs scope)) (λ t. []) (λ t. []) a b c x y z first next

  abbrev paths : Nodes → List (List ℕ)
  paths t = (texts_looked t conf ++ texts_looked t (builtin_dirs scope)) ++ flat_map (plain_looked t) (places scope z.seen.part conf)

  abbrev dirs : Nodes → List (List ℕ)
  dirs t = ([] ++ []) ++ flat_map (plain_listed t) (places scope z.seen.part conf)

  two_texts : (t : Nodes) → texts_looked t (conf ++ builtin_dirs scope) ≡ texts_looked t conf ++ texts_looked t (builtin_dirs scope)
  two_texts t = flat_map-append (λ text. looked_by t text Plain) conf (builtin_dirs scope)

  -- the directories that are kept are those of the tree
  kept_now : (t : Nodes) → HasLooked t x z (texts_looked t conf ++ texts_looked t (builtin_dirs scope)) [] ([] ++ []) [] → kept scope z.seen.part conf ≡ kept scope t conf
  kept_now t has = kept_seen t z.seen.part has.known.seen.whole has.known.seen.part scope conf
      (subst (AreSeen t z.seen.part) (sym (two_texts t)) (are_now_seen t x z (texts_looked t conf ++ texts_looked t (builtin_dirs scope)) ([] ++ []) has))

  same_places : (t : Nodes) → kept scope z.seen.part conf ≡ kept scope t conf → (places_looked scope t conf ≡ paths t) × (places_listed scope t conf ≡ dirs t)
  unfolding places_looked places_listed
  same_places t same =
      let plain = plain_places t z.seen.part scope conf in (
        ap (λ xs. xs ++ flat_map (below_looked t) (kept scope t conf)) (two_texts t)
            ∙ ap (λ leds. (texts_looked t conf ++ texts_looked t (builtin_dirs scope)) ++ flat_map (below_looked t) leds) (sym same)
            ∙ ap (λ xs. (texts_looked t conf ++ texts_looked t (builtin_dirs scope)) ++ xs) (sym plain.0),
        ap (flat_map (below_listed t)) (sym same) ∙ sym plain.1,
      )

  pub all_places_looked : Loads (λ t. places_looked scope t conf) (λ t. places_listed scope t conf) a d x w
  all_places_looked = same_asked paths dirs (λ t. places_looked scope t conf) (λ t. places_listed scope t conf) a d x w
      (both (λ t. texts_looked t conf ++ texts_looked t (builtin_dirs scope)) (λ t. flat_map (plain_looked t) (places scope z.seen.part conf))
      (λ t. [] ++ []) (λ t. flat_map (plain_listed t) (places scope z.seen.part conf)) a c d x z w dirs_first last)
      (known_both a.contents (λ k. IsLookedOf k.now x → HasLooked k.now x z (texts_looked k.now conf ++ texts_looked k.now (builtin_dirs scope)) [] ([] ++ []) []) (λ k. Unit {0})
      (λ k. IsLookedOf k.now x → HasLooked k.now x w (paths k.now) [] (dirs k.now) [] → (places_looked scope k.now conf ≡ paths k.now) × (places_listed scope k.now conf ≡ dirs k.now))
      (λ k has u is now. same_places k.now (kept_now k.now (has is))) dirs_first.looks (known_all a.contents (λ k. Unit {0}) (λ k. tt)))
