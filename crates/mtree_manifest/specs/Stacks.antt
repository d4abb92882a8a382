-- How the code stores the open directories: one buffer, and the length of each path in it.
use Rattle.std.specs.Prelude.{ℕ, ◌≤◌, ◌-◌, List, [], ◌∷◌, ◌++◌, All, AllPairs, map, take, length, slice_index}
use Rattle.manifest_words.specs.Paths.{Stack, current}

abbrev pub paths_in : List ℕ → List ℕ → Stack
paths_in path lens = map (λ n. take n path) lens

-- the length of the current directory's path
abbrev pub top : List ℕ → ℕ
top lens = slice_index lens (length lens - 1)

pub record IsStack (path lens : List ℕ) : Type 0 where
  pub within : All (λ n. n ≤ length path) lens
  pub rising : AllPairs (λ m n. m ≤ n) lens

abbrev pub opened : List ℕ → List ℕ → List ℕ → Stack
opened path lens more = paths_in path lens ++ (current (paths_in path lens) ++ more) ∷ []
