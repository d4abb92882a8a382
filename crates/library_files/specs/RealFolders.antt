-- The directories that the search directories resolve to, each once.
use Rattle.std.specs.Prelude.{◌≡◌, ◌⊎◌, ℕ, List, [], ◌∷◌, ◌++◌, length, Some}
use Rattle.std.specs.List.{slice_get}
use Rattle.std.specs.Str.{bytes_eq}
use Rattle.indexmap.specs.IndexSet.{insert_key}
use Rattle.string_pool.specs.Distinct.{distinct}
use Rattle.string_pool.specs.Shared.{taken, AreRows}
use Rattle.library_files.specs.declared.reals.RealFolders.{RealFolders}

-- the directories are the paths, each once, and the rows are those of the paths
pub record HaveRows (paths folders : List (List ℕ)) (indices : List ℕ) : Type 0 where
  pub once : folders ≡ distinct paths
  pub rows : AreRows (length folders) indices
  pub are : taken folders indices ≡ paths

abbrev pub AreFolders : List (List ℕ) → RealFolders → Type 0
AreFolders paths found = HaveRows paths found.paths.keys found.rows

-- The contract of a private function: a path keeps its row if it has one, and is added as the last row otherwise.
pub record IsRowOf (old : List (List ℕ)) (path : List ℕ) (row : ℕ) (new : List (List ℕ)) : Type 0 where
  pub keys : new ≡ insert_key bytes_eq old path
  pub stored : slice_get new row ≡ Some path
  pub kept : (new ≡ old) ⊎ ((new ≡ old ++ path ∷ []) × (row ≡ length old))
