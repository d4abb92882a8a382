-- The paths that a pattern of an `include` line looks up, and the directories that it lists (ldconfig(8), glob(7)).
use Rattle.std.specs.Prelude.{ℕ, Bool, List, [], ◌∷◌, ◌++◌, if◌then◌else◌, flat_map, Option, Some, None}
use Rattle.conf_patterns.specs.Glob.{glob_match}
use Rattle.conf_patterns.specs.Patterns.{base_of, components_of, go_on, is_wild, place_at, texts_by}
use Rattle.image_tree.specs.Tree.{Nodes}
use Rattle.path_walk.specs.declared.walk.Mode.TheVariants.{Plain}
use Rattle.seen_tree.specs.Part.{dirs_at, listed, looked_by}

-- ---- the paths that are looked up

-- a directory, if the text resolves, and the paths of its names that pass a test
abbrev pub listed_in : (List ℕ → Bool) → Nodes → Option (List ℕ) → List (List ℕ)
listed_in test t (Some dir) = listed test t dir
listed_in test t None = []

-- To extend a path by a component with a wildcard, the directory that the path resolves to is listed, and each name that the component
-- matches is looked up. Any other component looks up nothing.
abbrev pub choices_looked : Nodes → List ℕ → List ℕ → List (List ℕ)
choices_looked t component text =
    if is_wild component then looked_by t text Plain ++ listed_in (glob_match component) t (place_at t text) else []

-- the paths that are looked up to extend these paths by one name for each component
abbrev pub texts_looked : Nodes → List (List ℕ) → List (List ℕ) → List (List ℕ)
texts_looked t texts [] = []
texts_looked t texts (component ∷ rest) =
    flat_map (choices_looked t component) texts ++ texts_looked t (flat_map (go_on t component) texts) rest

-- the paths that are looked up to resolve these texts
abbrev pub places_looked : Nodes → List (List ℕ) → List (List ℕ)
places_looked t texts = flat_map (λ text. looked_by t text Plain) texts

-- The paths that are looked up for the results of a pattern in a file: first to expand the pattern, then to resolve each path.
unfoldable pub results_looked : Nodes → List ℕ → List ℕ → List (List ℕ)
results_looked t file pattern =
    texts_looked t (base_of file pattern ∷ []) (components_of pattern)
    ++ places_looked t (texts_by t (base_of file pattern ∷ []) (components_of pattern))

-- ---- the directories that are listed

abbrev pub dirs_in : Nodes → Option (List ℕ) → List (List ℕ)
dirs_in t (Some dir) = dirs_at t dir
dirs_in t None = []

-- only a component with a wildcard lists a directory
abbrev pub choices_listed : Nodes → List ℕ → List ℕ → List (List ℕ)
choices_listed t component text = if is_wild component then dirs_in t (place_at t text) else []

abbrev pub texts_listed : Nodes → List (List ℕ) → List (List ℕ) → List (List ℕ)
texts_listed t texts [] = []
texts_listed t texts (component ∷ rest) =
    flat_map (choices_listed t component) texts ++ texts_listed t (flat_map (go_on t component) texts) rest

unfoldable pub results_listed : Nodes → List ℕ → List ℕ → List (List ℕ)
results_listed t file pattern = texts_listed t (base_of file pattern ∷ []) (components_of pattern)
