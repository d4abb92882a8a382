-- Facts that private functions state about a pattern of a conf file: what is looked at to expand it, before its results are resolved.
use Rattle.std.specs.Prelude.{ℕ, List, [], ◌∷◌}
use Rattle.conf_patterns.specs.Patterns.{base_of, components_of}
use Rattle.conf_views.specs.Patterns.{texts_listed, texts_looked}
use Rattle.image_tree.specs.Tree.{Nodes}

abbrev pub pattern_looked : Nodes → List ℕ → List ℕ → List (List ℕ)
pattern_looked t file pattern = texts_looked t (base_of file pattern ∷ []) (components_of pattern)

abbrev pub pattern_listed : Nodes → List ℕ → List ℕ → List (List ℕ)
pattern_listed t file pattern = texts_listed t (base_of file pattern ∷ []) (components_of pattern)
