-- If the paths that are looked up were seen, the same paths are looked up and the same directories are listed in the part.
use Rattle.std.proofs.Common.{◌≡◌, ℕ, cond, List, [], ◌∷◌, ◌++◌, map, refl, ap, subst, ◌∙◌, Option, Some, None}
use Rattle.std.specs.List.{flat_map}
use Rattle.conf_patterns.specs.Glob.{glob_match}
use Rattle.conf_patterns.specs.Patterns.{base_of, components_of, go_on, is_wild, place_at, texts_by}
use Rattle.image_tree.specs.Paths.{join}
use Rattle.image_tree.specs.Tree.{Nodes}
use Rattle.ldso_conf.specs.Lines.{arguments_of, include, lines_of, text_of, words_of}
use Rattle.ldso_conf.specs.Reading.{Item, Names, Reports, Reads, Passes, Misses, Source, ConfFile, Given, conf_items}
use Rattle.ldso_conf.specs.Steps.{numbered}
use Rattle.lib_types.proofs.SortedPairs.{by_test}
use Rattle.path_walk.specs.declared.walk.Mode.TheVariants.{Plain}
use Rattle.root_folder.specs.Whole.{IsWhole}
use Rattle.seen_conf.proofs.Conf.{items_seen}
use Rattle.conf_views.proofs.Each.{flat_map_seen}
use Rattle.conf_views.proofs.Patterns.{next_seen, parts_seen, place_seen, texts_seen}
use Rattle.ldso_conf.specs.Looked.{file_paths, include_paths, item_paths, items_listed, items_looked, line_paths, patterns_listed, patterns_looked}
use Rattle.conf_views.specs.Patterns.{choices_listed, choices_looked, dirs_in, listed_in, places_looked, results_listed, results_looked, texts_listed, texts_looked}
use Rattle.seen_tree.proofs.Children.{names_seen}
use Rattle.seen_tree.proofs.Same.{kind_seen, seen_parts, text_seen}
use Rattle.seen_tree.specs.Part.{AreSeen, IsPart, if_dir, looked_by}
use Rattle.tree_face.specs.Store.{Contents}

module _ (t part : Nodes) (whole : IsWhole t) (is : IsPart t part) where
  -- ---- a component of a pattern

  module _ (component text : List ℕ) where
    abbrev names : Option (List ℕ) → List (List ℕ)
    names o = listed_in (glob_match component) t o

    listed_seen : (o : Option (List ℕ)) → AreSeen t part (names o)
        → (listed_in (glob_match component) part o ≡ names o) × (dirs_in part o ≡ dirs_in t o)
    listed_seen None all = (refl, refl)
    listed_seen (Some dir) all = (
      ap (λ kept. dir ∷ map (join dir) kept) (names_seen t part whole is (glob_match component) dir all),
      ap (λ kind. if_dir kind dir) (kind_seen t part whole is dir all.0),
    )

    both_seen : AreSeen t part (choices_looked t component text)
        → (choices_looked part component text ≡ choices_looked t component text)
        × (choices_listed part component text ≡ choices_listed t component text)
    both_seen all =
        let first = looked_by t text Plain in
        by_test (is_wild component)
        (λ e.
        let listed = names (place_at t text) in
        let parts = seen_parts t part first listed (subst (AreSeen t part) (ap (λ b. cond b (first ++ listed) []) e) all) in
        let place = place_seen t part whole is text parts.0 in
        let here = listed_seen (place_at t text) parts.1 in (
          rw e (ap (λ paths. paths ++ listed_in (glob_match component) part (place_at part text)) (text_seen t part whole is Plain text parts.0).1
              ∙ ap (λ o. first ++ listed_in (glob_match component) part o) place ∙ ap (λ paths. first ++ paths) here.0),
          rw e (ap (dirs_in part) place ∙ here.1),
        ))
        (λ e. (rw e refl, rw e refl))

  -- ---- a pattern

  texts_both : (components texts : List (List ℕ)) → AreSeen t part (texts_looked t texts components)
      → (texts_looked part texts components ≡ texts_looked t texts components) × (texts_listed part texts components ≡ texts_listed t texts components)
  texts_both [] texts all = (refl, refl)
  texts_both (component ∷ rest) texts all =
      let looked = choices_looked t component in
      let next = flat_map (go_on t component) texts in
      let parts = seen_parts t part (flat_map looked texts) (texts_looked t next rest) all in
      let more = texts_both rest next parts.1 in
      let following = next_seen t part whole is component texts parts.0 in (
        ap (λ paths. paths ++ texts_looked part (flat_map (go_on part component) texts) rest)
            (flat_map_seen t part looked (choices_looked part component) looked (λ text seen. (both_seen component text seen).0) texts parts.0)
            ∙ ap (λ paths. flat_map looked texts ++ paths) (ap (λ ys. texts_looked part ys rest) following ∙ more.0),
        ap (λ dirs. dirs ++ texts_listed part (flat_map (go_on part component) texts) rest)
            (flat_map_seen t part looked (choices_listed part component) (choices_listed t component)
            (λ text seen. (both_seen component text seen).1) texts parts.0)
            ∙ ap (λ dirs. flat_map (choices_listed t component) texts ++ dirs) (ap (λ ys. texts_listed part ys rest) following ∙ more.1),
      )

  module _ (file pattern : List ℕ) (all : AreSeen t part (results_looked t file pattern)) where
    abbrev start : List (List ℕ)
    start = base_of file pattern ∷ []

    pub results_looked_seen : results_looked part file pattern ≡ results_looked t file pattern
    unfolding results_looked
    results_looked_seen =
        let parts = parts_seen t part whole is file pattern all in
        let texts = texts_by t start (components_of pattern) in
        ap (λ paths. paths ++ places_looked part (texts_by part start (components_of pattern))) (texts_both (components_of pattern) start parts.0).0
        ∙ ap (λ ys. texts_looked t start (components_of pattern) ++ places_looked part ys)
        (texts_seen t part whole is (components_of pattern) start parts.0)
        ∙ ap (λ paths. texts_looked t start (components_of pattern) ++ paths)
        (flat_map_seen t part (λ text. looked_by t text Plain) (λ text. looked_by part text Plain) (λ text. looked_by t text Plain)
        (λ text seen. (text_seen t part whole is Plain text seen).1) texts parts.1)

    pub results_listed_seen : results_listed part file pattern ≡ results_listed t file pattern
    unfolding results_listed
    results_listed_seen = (texts_both (components_of pattern) start (parts_seen t part whole is file pattern all).0).1

  -- ---- the reading

  -- if two ways to give the paths of a pattern agree for what was seen, they agree for an item
  module _ (of new : List ℕ → List ℕ → List (List ℕ))
      (same : (file pattern : List ℕ) → AreSeen t part (results_looked t file pattern) → new file pattern ≡ of file pattern) where
    include_same : (file : List ℕ) (o : Option (List ℕ)) → AreSeen t part (include_paths (results_looked t) file o)
        → include_paths new file o ≡ include_paths of file o
    include_same file None all = refl
    include_same file (Some patterns) all = flat_map_seen t part (results_looked t file) (new file) (of file) (same file) (words_of patterns) all

    file_same : (file content : List ℕ) → AreSeen t part (file_paths (results_looked t) file content)
        → file_paths new file content ≡ file_paths of file content
    unfolding file_paths
    file_same file content all =
        flat_map_seen t part (line_paths (results_looked t) file) (line_paths new file) (line_paths of file)
        (λ line seen. include_same file (arguments_of include (text_of line.1)) seen) (numbered 1 (lines_of content)) all

    item_same : (item : Item) → AreSeen t part (item_paths (results_looked t) item) → item_paths new item ≡ item_paths of item
    item_same (Names dir origin) all = refl
    item_same (Reports report) all = refl
    item_same (Reads f key content) all = file_same f.0 content all
    item_same (Passes f key) all = refl
    item_same (Misses f key) all = refl

    items_same : (items : List Item) → AreSeen t part (patterns_looked t items)
        → flat_map (item_paths new) items ≡ flat_map (item_paths of) items
    items_same items all = flat_map_seen t part (item_paths (results_looked t)) (item_paths new) (item_paths of) item_same items all

  module _ (held : Contents) where
    -- the same paths are looked up
    pub items_looked_seen : (source : Source) → AreSeen t part (items_looked source held t)
        → items_looked source held part ≡ items_looked source held t
    unfolding items_looked
    items_looked_seen (Given dirs) all = refl
    items_looked_seen (ConfFile path) all =
        let items = conf_items (ConfFile path) held t in
        let parts = seen_parts t part (looked_by t path Plain) (patterns_looked t items) all in
        ap (λ paths. paths ++ patterns_looked part (conf_items (ConfFile path) held part)) (text_seen t part whole is Plain path parts.0).1
        ∙ ap (λ xs. looked_by t path Plain ++ patterns_looked part xs) (items_seen t part whole is held (ConfFile path) all)
        ∙ ap (λ paths. looked_by t path Plain ++ paths) (items_same (results_looked t) (results_looked part) results_looked_seen items parts.1)

    -- the same directories are listed
    pub items_listed_seen : (source : Source) → AreSeen t part (items_looked source held t)
        → items_listed source held part ≡ items_listed source held t
    unfolding items_looked items_listed
    items_listed_seen (Given dirs) all = refl
    items_listed_seen (ConfFile path) all =
        let items = conf_items (ConfFile path) held t in
        let parts = seen_parts t part (looked_by t path Plain) (patterns_looked t items) all in
        ap (patterns_listed part) (items_seen t part whole is held (ConfFile path) all)
        ∙ items_same (results_listed t) (results_listed part) results_listed_seen items parts.1
