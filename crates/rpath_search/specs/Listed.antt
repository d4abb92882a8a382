-- What private functions compute for the objects of a chain.
use Rattle.std.specs.Prelude.{◌≡◌, ◌<◌, ◌-◌, List, [], ◌∷◌, length}
use Rattle.rpath_search.specs.Loaders.{not_found, reach_at}
use Rattle.rpath_search.specs.Places.{Reach, reach_of}
use Rattle.rpath_search.specs.declared.kinds.Env.{Env}
use Rattle.rpath_search.specs.declared.kinds.Owner.{Owner}

-- the search directories for what the first object of a chain needs
abbrev pub reach_in : Env → List Owner → Reach
reach_in env [] = not_found
reach_in env (owner ∷ loaders) = reach_of env owner loaders

-- the last object's search directories are those of the first object of the chain
pub record HasLast (env : Env) (chain : List Owner) (reaches : List Reach) : Type 0 where
  pub some : 0 < length reaches
  pub last : reach_at reaches (length reaches - 1) ≡ reach_in env chain
