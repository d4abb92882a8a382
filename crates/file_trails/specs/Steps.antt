-- Facts that private functions state about the steps of a walk.
use Rattle.std.specs.Prelude.{◌≡◌, ◌++◌, ◌∷◌, [], ℕ, List, Option, Some, None, Result}
use Rattle.image_tree.specs.Paths.{components}
use Rattle.image_tree.specs.Tree.{Nodes}
use Rattle.path_walk.specs.Walk.{Stop, Ends, Follows, start_of, steps, target_at}
use Rattle.path_walk.specs.declared.walk.Mode.TheVariants.{Full}
use Rattle.path_walk.specs.declared.walk.WalkFault.{WalkFault}
use Rattle.file_trails.specs.Trail.{met}
use Rattle.file_trails.specs.declared.trail.Onward.{Onward}
use Rattle.file_trails.specs.declared.trail.Step.{Step}
use Rattle.file_trails.specs.declared.trail.Step.TheVariants as step

-- the walk ends there
abbrev pub IsEnd : Stop → Type 0
IsEnd stop = (result : Result (List ℕ) WalkFault) × (stop ≡ Ends result)

-- what the walk by a name and then by the rest meets, and where it stops
abbrev pub Goes : Nodes → List ℕ → List (List ℕ) → List ℕ → Step → Type 0
Goes t name rest place (step.To next) = (met t (name ∷ rest) place ≡ met t rest next) × (steps t Full (name ∷ rest) place ≡ steps t Full rest next)
Goes t name rest place (step.File path) = (met t (name ∷ rest) place ≡ path ∷ []) × IsEnd (steps t Full (name ∷ rest) place)
Goes t name rest place (step.Link path) =
    (met t (name ∷ rest) place ≡ path ∷ [])
    × (steps t Full (name ∷ rest) place ≡ Follows (components (target_at t path) ++ rest) (start_of (target_at t path) place))
Goes t name rest place step.Nowhere = (met t (name ∷ rest) place ≡ []) × IsEnd (steps t Full (name ∷ rest) place)

abbrev pub IsStep : Nodes → List ℕ → List ℕ → Step → Type 0
IsStep t name place s = (rest : List (List ℕ)) → Goes t name rest place s

-- where a walk by these names stops
abbrev pub StopsAt : Stop → Option Onward → Type 0
StopsAt stop None = IsEnd stop
StopsAt stop (Some onward) = stop ≡ Follows onward.names onward.place

-- the walk adds what it meets
abbrev pub Passes : Nodes → List (List ℕ) → List ℕ → List (List ℕ) → List (List ℕ) → Option Onward → Type 0
Passes t names place old new onward = (new ≡ old ++ met t names place) × StopsAt (steps t Full names place) onward
