-- The chains of objects, and the search directories of an object with a chain.
use Rattle.std.specs.Prelude.{ℕ, List, [], ◌∷◌, slice_index_or, Option, Some, None}
use Rattle.rpath_search.specs.Places.{Reach, reach_of}
use Rattle.rpath_search.specs.declared.kinds.Env.{Env}
use Rattle.rpath_search.specs.declared.kinds.Owner.{Owner}

-- the chain of the object with this number; empty above the program
abbrev pub following : List (List Owner) → Option ℕ → List Owner
following chains None = []
following chains (Some n) = slice_index_or chains n []

abbrev pub reach_in : Env → List Owner → Option Reach
reach_in env [] = None
reach_in env (owner ∷ loaders) = Some (reach_of env owner loaders)
