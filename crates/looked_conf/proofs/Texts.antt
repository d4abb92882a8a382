-- The paths that a pattern expands to, while the directory is looked at.
use Rattle.std.proofs.Common.{◌≡◌, ℕ, true, false, not, List, [], ◌∷◌, ◌++◌, append_assoc, append-nil, filter, flat_map, map, refl, ap, sym, subst, ◌∙◌, Option, Some, None}
use Rattle.lib_types.specs.Name.{slash}
use Rattle.conf_patterns.specs.Finding.{matches_of}
use Rattle.conf_patterns.specs.Glob.{glob_match}
use Rattle.conf_patterns.specs.Patterns.{base_of, chosen_in, components_of, go_on, is_library_link, is_wild, place_at, texts_by}
use Rattle.conf_views.proofs.Patterns.{chosen_seen, place_seen, both_tests}
use Rattle.conf_views.specs.Patterns.{choices_listed, choices_looked, dirs_in, listed_in, places_looked, results_listed, results_looked, texts_listed, texts_looked}
use Rattle.image_tree.specs.Tree.{Nodes, children_of}
use Rattle.path_walk.specs.declared.walk.Mode.TheVariants.{Plain}
use Rattle.root_folder.specs.Folder.{FolderState}
use Rattle.seen_tree.proofs.Children.{names_seen}
use Rattle.seen_tree.specs.Part.{dirs_at, listed, looked_by}
use Rattle.tree_face.specs.Known.{IfKnown}
use Rattle.looked_tree.proofs.Loads.{Splits, are_now_seen, begins, both, goes_on, known_all, known_both, known_now, same_asked}
use Rattle.looked_tree.specs.Looked.{HasLooked, IsLookedOf, Loads, LoadsPart, Looked}

-- ---- the names that a component matches

module _ (component text : List ℕ) where
  abbrev Matches : FolderState → FolderState → Looked → Looked → Type 0
  Matches a b x y = Loads (λ t. looked_by t text Plain ++ listed_in (glob_match component) t (place_at t text)) (λ t. dirs_in t (place_at t text)) a b x y

  module _ (a b : FolderState) (x y : Looked) (first : Loads (λ t. looked_by t text Plain) (λ t. []) a b x y) where
    -- the path resolves to what it resolves to in the part
    place_now : (t : Nodes) → HasLooked t x y (looked_by t text Plain) [] [] [] → place_at y.seen.part text ≡ place_at t text
    place_now t has = place_seen t y.seen.part has.known.seen.whole has.known.seen.part text (are_now_seen t x y (looked_by t text Plain) [] has)

    -- what is known of the place
    places_known : (o : Option (List ℕ)) → place_at y.seen.part text ≡ o → IfKnown a.contents (λ k. IsLookedOf k.now x → IsLookedOf k.now y × (place_at k.now text ≡ o))
    places_known o e = known_both a.contents (λ k. IsLookedOf k.now x → HasLooked k.now x y (looked_by k.now text Plain) [] [] []) (λ k. Unit {0})
        (λ k. IsLookedOf k.now x → IsLookedOf k.now y × (place_at k.now text ≡ o))
        (λ k has u is. ((has is).known, sym (place_now k.now (has is)) ∙ e)) first.looks (known_all a.contents (λ k. Unit {0}) (λ k. tt))

    pub matches_none : place_at y.seen.part text ≡ None → Matches a b x y
    matches_none e = same_asked (λ t. looked_by t text Plain) (λ t. []) (λ t. looked_by t text Plain ++ listed_in (glob_match component) t (place_at t text)) (λ t. dirs_in t (place_at t text))
        a b x y first
        (known_all a.contents (λ k. IsLookedOf k.now x → HasLooked k.now x y (looked_by k.now text Plain) [] [] []
        → (looked_by k.now text Plain ++ listed_in (glob_match component) k.now (place_at k.now text) ≡ looked_by k.now text Plain) × (dirs_in k.now (place_at k.now text) ≡ []))
        (λ k is has.
        let none : place_at k.now text ≡ None = sym (place_now k.now has) ∙ e in (
          ap (λ o. looked_by k.now text Plain ++ listed_in (glob_match component) k.now o) none ∙ append-nil (looked_by k.now text Plain),
          ap (dirs_in k.now) none,
        )))

    pub none_chosen : (texts : List (List ℕ)) → place_at y.seen.part text ≡ None → IfKnown a.contents (λ k. IsLookedOf k.now x → texts ≡ texts ++ matches_of k.now component text)
    none_chosen texts e = known_both a.contents (λ k. IsLookedOf k.now x → IsLookedOf k.now y × (place_at k.now text ≡ None)) (λ k. Unit {0})
        (λ k. IsLookedOf k.now x → texts ≡ texts ++ matches_of k.now component text)
        (λ k g u is. sym (ap (λ o. texts ++ map (λ name. text ++ slash ∷ name) (chosen_in k.now component o)) (g is).1 ∙ append-nil texts))
        (places_known None e) (known_all a.contents (λ k. Unit {0}) (λ k. tt))

    module _ (dir : List ℕ) (e : place_at y.seen.part text ≡ Some dir) (c : FolderState) (z : Looked)
        (next : Loads (λ t. listed (glob_match component) t dir) (λ t. dirs_at t dir) b c y z) where
      pub matches_some : Matches a c x z
      matches_some = same_asked (λ t. looked_by t text Plain ++ listed (glob_match component) t dir) (λ t. [] ++ dirs_at t dir)
          (λ t. looked_by t text Plain ++ listed_in (glob_match component) t (place_at t text)) (λ t. dirs_in t (place_at t text))
          a c x z (both (λ t. looked_by t text Plain) (λ t. listed (glob_match component) t dir) (λ t. []) (λ t. dirs_at t dir) a b c x y z first next)
          (known_both a.contents (λ k. IsLookedOf k.now x → IsLookedOf k.now y × (place_at k.now text ≡ Some dir)) (λ k. Unit {0})
          (λ k. IsLookedOf k.now x → HasLooked k.now x z (looked_by k.now text Plain ++ listed (glob_match component) k.now dir) [] ([] ++ dirs_at k.now dir) []
          → (looked_by k.now text Plain ++ listed_in (glob_match component) k.now (place_at k.now text) ≡ looked_by k.now text Plain ++ listed (glob_match component) k.now dir)
          × (dirs_in k.now (place_at k.now text) ≡ [] ++ dirs_at k.now dir))
          (λ k g u is has. (
            ap (λ o. looked_by k.now text Plain ++ listed_in (glob_match component) k.now o) (g is).1,
            ap (dirs_in k.now) (g is).1,
          ))
          (places_known (Some dir) e) (known_all a.contents (λ k. Unit {0}) (λ k. tt)))

      -- the names that the component selects in the part are those in the tree
      names_chosen : (t : Nodes) (names : List (List ℕ)) → HasLooked t y z (listed (glob_match component) t dir) [] (dirs_at t dir) []
          → names ≡ filter (glob_match component) (children_of t dir)
          → filter (λ name. not (is_library_link z.seen.part dir name)) names ≡ chosen_in t component (Some dir)
      names_chosen t names has is =
          let part = z.seen.part in
          let all = are_now_seen t y z (listed (glob_match component) t dir) (dirs_at t dir) has in
          ap (filter (λ name. not (is_library_link part dir name))) (is ∙ sym (names_seen t part has.known.seen.whole has.known.seen.part (glob_match component) dir all))
          ∙ sym (both_tests (glob_match component) (λ name. not (is_library_link part dir name)) (children_of part dir))
          ∙ chosen_seen t part has.known.seen.whole has.known.seen.part component (Some dir) all

      pub some_chosen : (texts more names : List (List ℕ)) → IfKnown b.contents (λ k. IsLookedOf k.now y → names ≡ filter (glob_match component) (children_of k.now dir))
          → more ≡ texts ++ map (λ name. text ++ slash ∷ name) (filter (λ name. not (is_library_link z.seen.part dir name)) names)
          → IfKnown a.contents (λ k. IsLookedOf k.now x → more ≡ texts ++ matches_of k.now component text)
      some_chosen texts more names there is = known_both a.contents (λ k. IsLookedOf k.now x → IsLookedOf k.now y × (place_at k.now text ≡ Some dir))
          (λ k. IsLookedOf k.now y → filter (λ name. not (is_library_link z.seen.part dir name)) names ≡ chosen_in k.now component (Some dir))
          (λ k. IsLookedOf k.now x → more ≡ texts ++ matches_of k.now component text)
          (λ k g chosen known.
          is ∙ ap (λ xs. texts ++ map (λ name. text ++ slash ∷ name) xs) (chosen (g known).0)
          ∙ ap (λ o. texts ++ map (λ name. text ++ slash ∷ name) (chosen_in k.now component o)) (sym (g known).1))
          (places_known (Some dir) e)
          (subst (λ o. IfKnown o (λ k. IsLookedOf k.now y → filter (λ name. not (is_library_link z.seen.part dir name)) names ≡ chosen_in k.now component (Some dir)))
          first.reads.keeps.contents
          (known_both b.contents (λ k. IsLookedOf k.now y → HasLooked k.now y z (listed (glob_match component) k.now dir) [] (dirs_at k.now dir) [])
          (λ k. IsLookedOf k.now y → names ≡ filter (glob_match component) (children_of k.now dir))
          (λ k. IsLookedOf k.now y → filter (λ name. not (is_library_link z.seen.part dir name)) names ≡ chosen_in k.now component (Some dir))
          (λ k has same known. names_chosen k.now names (has known) (same known)) next.looks there))

  -- ---- one component

  -- a component with a wildcard
  pub wild_choices : (a b : FolderState) (x y : Looked) → is_wild component ≡ true → Matches a b x y
      → Loads (λ t. choices_looked t component text) (λ t. choices_listed t component text) a b x y
  wild_choices a b x y e loads = rw e loads

  pub wild_texts : (a : FolderState) (x : Looked) (texts more : List (List ℕ)) → is_wild component ≡ true
      → IfKnown a.contents (λ k. IsLookedOf k.now x → more ≡ texts ++ matches_of k.now component text)
      → IfKnown a.contents (λ k. IsLookedOf k.now x → more ≡ texts ++ go_on k.now component text)
  wild_texts a x texts more e known = rw e known

  -- any other component
  pub plain_choices : (a : FolderState) (x : Looked) → is_wild component ≡ false
      → Loads (λ t. choices_looked t component text) (λ t. choices_listed t component text) a a x x
  plain_choices a x e = rw e (begins (λ t. []) (λ t. []) a x)

  pub plain_texts : (a : FolderState) (x : Looked) (texts more : List (List ℕ)) → is_wild component ≡ false → more ≡ texts ++ (text ++ slash ∷ component) ∷ []
      → IfKnown a.contents (λ k. IsLookedOf k.now x → more ≡ texts ++ go_on k.now component text)
  plain_texts a x texts more e is = known_all a.contents (λ k. IsLookedOf k.now x → more ≡ texts ++ go_on k.now component text) (λ k known. rw e is)

-- ---- several paths

-- Of these paths, each of which is extended by a component, these are left.
pub record IsExtending (component : List ℕ) (texts left more : List (List ℕ)) (a b : FolderState) (x y : Looked) : Type 0 where
  pub loads : LoadsPart (λ t. flat_map (choices_looked t component) texts) (λ t. flat_map (choices_looked t component) left)
      (λ t. flat_map (choices_listed t component) texts) (λ t. flat_map (choices_listed t component) left) a b x y
  pub extended : IfKnown a.contents (λ k. IsLookedOf k.now x → more ++ flat_map (go_on k.now component) left ≡ flat_map (go_on k.now component) texts)

pub extending_begins : (component : List ℕ) (texts : List (List ℕ)) (a : FolderState) (x : Looked) → IsExtending component texts texts [] a a x x
extending_begins component texts a x = record {
  loads = begins (λ t. flat_map (choices_looked t component) texts) (λ t. flat_map (choices_listed t component) texts) a x;
  extended = known_all a.contents (λ k. IsLookedOf k.now x → flat_map (go_on k.now component) texts ≡ flat_map (go_on k.now component) texts) (λ k is. refl);
}

module _ (component : List ℕ) (texts : List (List ℕ)) (a b : FolderState) (x y : Looked) where
  pub extending_on : (text : List ℕ) (left more after : List (List ℕ)) (c : FolderState) (z : Looked) → IsExtending component texts (text ∷ left) more a b x y
      → Loads (λ t. choices_looked t component text) (λ t. choices_listed t component text) b c y z
      → IfKnown b.contents (λ k. IsLookedOf k.now y → after ≡ more ++ go_on k.now component text)
      → IsExtending component texts left after a c x z
  extending_on text left more after c z on next is = record {
    loads = goes_on (λ t. flat_map (choices_looked t component) texts) (λ t. flat_map (choices_looked t component) (text ∷ left))
        (λ t. flat_map (choices_listed t component) texts) (λ t. flat_map (choices_listed t component) (text ∷ left)) a b c x y z on.loads
        (λ t. choices_looked t component text) (λ t. flat_map (choices_looked t component) left)
        (λ t. choices_listed t component text) (λ t. flat_map (choices_listed t component) left) next
        (known_all b.contents (Splits y z (λ t. flat_map (choices_looked t component) (text ∷ left)) (λ t. choices_looked t component text) (λ t. flat_map (choices_looked t component) left)
        (λ t. flat_map (choices_listed t component) (text ∷ left)) (λ t. choices_listed t component text) (λ t. flat_map (choices_listed t component) left)) (λ k known has. (refl, refl)));
    extended = known_now (λ t. flat_map (choices_looked t component) texts) (λ t. flat_map (choices_looked t component) (text ∷ left))
        (λ t. flat_map (choices_listed t component) texts) (λ t. flat_map (choices_listed t component) (text ∷ left)) a b x y
        (λ k. more ++ flat_map (go_on k.now component) (text ∷ left) ≡ flat_map (go_on k.now component) texts)
        (λ k. after ≡ more ++ go_on k.now component text)
        (λ k. after ++ flat_map (go_on k.now component) left ≡ flat_map (go_on k.now component) texts) on.loads
        (λ k whole one. ap (λ xs. xs ++ flat_map (go_on k.now component) left) one
        ∙ append_assoc more (go_on k.now component text) (flat_map (go_on k.now component) left) ∙ whole) on.extended is;
  }

  pub extending_ends : (more : List (List ℕ)) → IsExtending component texts [] more a b x y
      → IfKnown a.contents (λ k. IsLookedOf k.now x → more ≡ flat_map (go_on k.now component) texts)
  extending_ends more on = known_both a.contents (λ k. IsLookedOf k.now x → more ++ [] ≡ flat_map (go_on k.now component) texts) (λ k. Unit {0})
      (λ k. IsLookedOf k.now x → more ≡ flat_map (go_on k.now component) texts) (λ k g u is. sym (append-nil more) ∙ g is) on.extended (known_all a.contents (λ k. Unit {0}) (λ k. tt))

  pub extending_done : (left more : List (List ℕ)) → left ≡ [] → IsExtending component texts left more a b x y
      → IfKnown a.contents (λ k. IsLookedOf k.now x → more ≡ flat_map (go_on k.now component) texts)
  extending_done left more none on = extending_ends more (subst (λ xs. IsExtending component texts xs more a b x y) none on)

-- ---- several components

-- Of the components of a pattern these are left, for these paths.
pub record IsExpanding (start components texts left : List (List ℕ)) (a b : FolderState) (x y : Looked) : Type 0 where
  pub loads : LoadsPart (λ t. texts_looked t start components) (λ t. texts_looked t texts left) (λ t. texts_listed t start components) (λ t. texts_listed t texts left) a b x y
  pub expanded : IfKnown a.contents (λ k. IsLookedOf k.now x → texts_by k.now texts left ≡ texts_by k.now start components)

pub expanding_begins : (start components : List (List ℕ)) (a : FolderState) (x : Looked) → IsExpanding start components start components a a x x
expanding_begins start components a x = record {
  loads = begins (λ t. texts_looked t start components) (λ t. texts_listed t start components) a x;
  expanded = known_all a.contents (λ k. IsLookedOf k.now x → texts_by k.now start components ≡ texts_by k.now start components) (λ k is. refl);
}

module _ (start components : List (List ℕ)) (a b : FolderState) (x y : Looked) where
  pub expanding_on : (component : List ℕ) (left texts new : List (List ℕ)) (c : FolderState) (z : Looked) → IsExpanding start components texts (component ∷ left) a b x y
      → Loads (λ t. flat_map (choices_looked t component) texts) (λ t. flat_map (choices_listed t component) texts) b c y z
      → IfKnown b.contents (λ k. IsLookedOf k.now y → new ≡ flat_map (go_on k.now component) texts)
      → IsExpanding start components new left a c x z
  expanding_on component left texts new c z on next is = record {
    loads = goes_on (λ t. texts_looked t start components) (λ t. texts_looked t texts (component ∷ left)) (λ t. texts_listed t start components) (λ t. texts_listed t texts (component ∷ left))
        a b c x y z on.loads
        (λ t. flat_map (choices_looked t component) texts) (λ t. texts_looked t new left)
        (λ t. flat_map (choices_listed t component) texts) (λ t. texts_listed t new left) next
        (known_both b.contents (λ k. IsLookedOf k.now y → new ≡ flat_map (go_on k.now component) texts) (λ k. Unit {0})
        (Splits y z (λ t. texts_looked t texts (component ∷ left)) (λ t. flat_map (choices_looked t component) texts) (λ t. texts_looked t new left)
        (λ t. texts_listed t texts (component ∷ left)) (λ t. flat_map (choices_listed t component) texts) (λ t. texts_listed t new left))
        (λ k one u known has. (
          ap (λ xs. flat_map (choices_looked k.now component) texts ++ texts_looked k.now xs left) (sym (one known)),
          ap (λ xs. flat_map (choices_listed k.now component) texts ++ texts_listed k.now xs left) (sym (one known)),
        )) is (known_all b.contents (λ k. Unit {0}) (λ k. tt)));
    expanded = known_now (λ t. texts_looked t start components) (λ t. texts_looked t texts (component ∷ left)) (λ t. texts_listed t start components) (λ t. texts_listed t texts (component ∷ left))
        a b x y (λ k. texts_by k.now texts (component ∷ left) ≡ texts_by k.now start components) (λ k. new ≡ flat_map (go_on k.now component) texts)
        (λ k. texts_by k.now new left ≡ texts_by k.now start components) on.loads
        (λ k whole one. ap (λ xs. texts_by k.now xs left) one ∙ whole) on.expanded is;
  }

  pub expanding_done : (texts left : List (List ℕ)) → left ≡ [] → IsExpanding start components texts left a b x y
      → IfKnown a.contents (λ k. IsLookedOf k.now x → texts ≡ texts_by k.now start components)
  expanding_done texts left none on = (subst (λ xs. IsExpanding start components texts xs a b x y) none on).expanded

-- ---- a pattern

pub pattern_looked : (start components : List (List ℕ)) (a b c : FolderState) (x y z : Looked) (texts : List (List ℕ))
    → Loads (λ t. texts_looked t start components) (λ t. texts_listed t start components) a b x y
    → IfKnown a.contents (λ k. IsLookedOf k.now x → texts ≡ texts_by k.now start components)
    → Loads (λ t. places_looked t texts) (λ t. []) b c y z
    → Loads (λ t. texts_looked t start components ++ places_looked t (texts_by t start components)) (λ t. texts_listed t start components) a c x z
pattern_looked start components a b c x y z texts first is next =
    same_asked (λ t. texts_looked t start components ++ places_looked t texts) (λ t. texts_listed t start components ++ [])
    (λ t. texts_looked t start components ++ places_looked t (texts_by t start components)) (λ t. texts_listed t start components) a c x z
    (both (λ t. texts_looked t start components) (λ t. places_looked t texts) (λ t. texts_listed t start components) (λ t. []) a b c x y z first next)
    (known_both a.contents (λ k. IsLookedOf k.now x → texts ≡ texts_by k.now start components) (λ k. Unit {0})
    (λ k. IsLookedOf k.now x → HasLooked k.now x z (texts_looked k.now start components ++ places_looked k.now texts) [] (texts_listed k.now start components ++ []) []
    → (texts_looked k.now start components ++ places_looked k.now (texts_by k.now start components) ≡ texts_looked k.now start components ++ places_looked k.now texts)
    × (texts_listed k.now start components ≡ texts_listed k.now start components ++ []))
    (λ k one u known has. (ap (λ xs. texts_looked k.now start components ++ places_looked k.now xs) (sym (one known)), sym (append-nil (texts_listed k.now start components))))
    is (known_all a.contents (λ k. Unit {0}) (λ k. tt)))

-- the paths and the directories for the results of a pattern in a file
pub results_loaded : (file pattern : List ℕ) (a b c : FolderState) (x y z : Looked) (texts : List (List ℕ))
    → Loads (λ t. texts_looked t (base_of file pattern ∷ []) (components_of pattern)) (λ t. texts_listed t (base_of file pattern ∷ []) (components_of pattern)) a b x y
    → IfKnown a.contents (λ k. IsLookedOf k.now x → texts ≡ texts_by k.now (base_of file pattern ∷ []) (components_of pattern))
    → Loads (λ t. places_looked t texts) (λ t. []) b c y z
    → Loads (λ t. results_looked t file pattern) (λ t. results_listed t file pattern) a c x z
unfolding results_looked results_listed
results_loaded file pattern a b c x y z texts first is next = pattern_looked (base_of file pattern ∷ []) (components_of pattern) a b c x y z texts first is next
