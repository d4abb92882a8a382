-- How the code finds the results of a pattern: one path at a time.
use Rattle.std.specs.Prelude.{ℕ, List, ◌∷◌, ◌++◌, map, Option, Some, None}
use Rattle.lib_types.specs.Name.{slash}
use Rattle.image_tree.specs.Tree.{Nodes}
use Rattle.conf_patterns.specs.Patterns.{Found, chosen_in, found_at, place_at, with_found}

-- the path, extended by each name that the component matches
abbrev pub matches_of : Nodes → List ℕ → List ℕ → List (List ℕ)
matches_of t component text = map (λ name. text ++ slash ∷ name) (chosen_in t component (place_at t text))

-- adds a result, if there is one
abbrev pub with_result : List Found → Option Found → List Found
with_result found None = found
with_result found (Some f) = with_found found f

abbrev pub with_text : Nodes → List Found → List ℕ → List Found
with_text t found text = with_result found (found_at t text)
