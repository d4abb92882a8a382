-- How the code stores the search directories of objects: for each object its own directories, and the nearest of its loaders that has
-- DT_RPATH directories.
use Rattle.std.specs.Prelude.{◌≡◌, ◌<◌, ℕ, false, List, [], ◌∷◌, ◌++◌, length, slice_index_or, Option, Some, None, IfSome, option_map}
use Rattle.rpath_search.specs.declared.dirs.OwnDirs.{OwnDirs}
use Rattle.rpath_search.specs.declared.kinds.Env.{Env}
use Rattle.rpath_search.specs.declared.kinds.Owner.{Owner}
use Rattle.rpath_search.specs.declared.loaders.Link.{Link}
use Rattle.rpath_search.specs.Places.{Reach, dirs_by, rpath_dirs}

-- the directories from an object's own DT_RPATH and DT_RUNPATH
abbrev pub own_dirs : Env → Owner → OwnDirs
own_dirs env owner = record { rpath = rpath_dirs env owner; runpath = option_map (dirs_by env owner) owner.runpath; nodeflib = owner.nodeflib }

-- the search directories of an object, given those of its loader
abbrev pub reach_over : Env → Owner → Reach → Reach
reach_over env owner above = record {
  rpaths = rpath_dirs env owner ++ above.rpaths;
  library = above.library;
  runpath = option_map (dirs_by env owner) owner.runpath;
  nodeflib = owner.nodeflib;
}

abbrev pub not_found : Reach
not_found = record { rpaths = []; library = []; runpath = None; nodeflib = false }

abbrev pub reach_at : List Reach → ℕ → Reach
reach_at reaches i = slice_index_or reaches i not_found

-- ---- the objects

-- the DT_RPATH directories of an object and of its loaders up to the program
abbrev pub rpaths_from : List Reach → Option ℕ → List (List ℕ)
rpaths_from reaches None = []
rpaths_from reaches (Some i) = (reach_at reaches i).rpaths

abbrev pub reach_by : List (List ℕ) → List Reach → Link → Reach
reach_by library reaches l = record {
  rpaths = l.dirs.rpath ++ rpaths_from reaches l.above;
  library = library;
  runpath = l.dirs.runpath;
  nodeflib = l.dirs.nodeflib;
}

-- an object's search directories consist of its own directories and those of its loaders
pub record IsReachOf (reaches : List Reach) (reach : Reach) (l : Link) : Type 0 where
  pub rpaths : reach.rpaths ≡ l.dirs.rpath ++ rpaths_from reaches l.above
  pub runpath : reach.runpath ≡ l.dirs.runpath
  pub nodeflib : reach.nodeflib ≡ l.dirs.nodeflib

-- appends the search directories of objects, one after another
abbrev pub reaches_from : List (List ℕ) → List Reach → List Link → List Reach
reaches_from library reaches [] = reaches
reaches_from library reaches (l ∷ links) = reaches_from library (reaches ++ reach_by library reaches l ∷ []) links

abbrev pub reaches_of : List (List ℕ) → List Link → List Reach
reaches_of library links = reaches_from library [] links

-- the number that each object refers to is below its own
pub record AreLinked (library : List (List ℕ)) (links : List Link) : Type 0 where
  pub all : length (reaches_of library links) ≡ length links
  pub below : (i : ℕ) (d : Link) → i < length links → IfSome (slice_index_or links i d).above (λ j. j < i)
  pub linked : (i : ℕ) (d : Link) → i < length links → reach_at (reaches_of library links) i ≡ reach_by library (reaches_of library links) (slice_index_or links i d)
