-- The parts of a search for a library (ld.so(8), "DESCRIPTION").
use Rattle.std.specs.Prelude.{◌≡◌, ℕ, List, [], ◌∷◌, find, flat_map, if◌then◌else◌, is_some, Option}
use Rattle.std.specs.Option.{option_map_or}
use Rattle.rpath_search.specs.Places.{Reach, cached_paths, default_dirs, has_slash, paths_by, paths_in}
use Rattle.rpath_search.specs.Searching.{is_among}
use Rattle.rpath_search.specs.declared.kinds.Env.{Env}
use Rattle.rpath_search.specs.declared.parts.Part.{Part}
use Rattle.rpath_search.specs.declared.parts.Part.TheVariants as part

-- the DT_RPATH directories of an object and its loaders; left out if the object has DT_RUNPATH
abbrev pub rpaths_of : Reach → List (List ℕ)
rpaths_of reach = if is_some reach.runpath then [] else reach.rpaths

abbrev pub runpath_of : Reach → List (List ℕ)
runpath_of reach = option_map_or (λ dirs. dirs) reach.runpath []

-- the search paths of a name without a slash, by parts, in the order of the search
abbrev pub parts : List ℕ → Env → Reach → Option (List ℕ) → List (Part × List (List ℕ))
parts name env reach cached =
    (part.Rpath, flat_map (paths_in name env.caps) (rpaths_of reach))
    ∷ (part.LibraryPath, flat_map (paths_in name env.caps) reach.library)
    ∷ (part.Runpath, flat_map (paths_in name env.caps) (runpath_of reach))
    ∷ (part.Cache, cached_paths reach cached)
    ∷ (part.Default, flat_map (paths_in name env.caps) (default_dirs env reach))
    ∷ []

-- all parts together are the search paths
abbrev pub AreParts : List ℕ → Env → Reach → Option (List ℕ) → Type 0
AreParts name env reach cached = flat_map (λ p. p.1) (parts name env reach cached) ≡ paths_by name env reach cached

-- the first part with the path
abbrev pub part_by : List ℕ → Env → Reach → Option (List ℕ) → List ℕ → Part
part_by name env reach cached path = option_map_or (λ p. p.0) (find (λ p. is_among p.1 path) (parts name env reach cached)) part.Default

-- The part of a search that gives a path. A name with a slash is itself the path.
abbrev pub part_of : List ℕ → Env → Reach → Option (List ℕ) → List ℕ → Part
part_of name env reach cached path = if has_slash name then part.Name else part_by name env reach cached path
