-- The remaining paths of a search.
use Rattle.std.specs.Prelude.{◌≡◌, ◌<◌, ◌+◌, ◌*◌, ℕ, suc, List, [], ◌∷◌, ◌++◌, drop, flat_map, if◌then◌else◌, length, map, Option, Some, None, IfSome, option_to_list}
use Rattle.std.specs.Option.{option_copied, option_map_or}
use Rattle.rpath_search.specs.Loaders.{rpaths_from}
use Rattle.rpath_search.specs.Places.{Reach, from_root, has_slash, hwcaps_path, paths_by, paths_in, system_dirs_of}
use Rattle.rpath_search.specs.declared.candidates.At.{At}
use Rattle.rpath_search.specs.declared.candidates.Candidates.{Candidates}
use Rattle.rpath_search.specs.declared.candidates.DefaultDirs.{DefaultDirs}
use Rattle.rpath_search.specs.declared.candidates.FirstDirs.{FirstDirs}
use Rattle.rpath_search.specs.declared.kinds.Env.{Env}
use Rattle.image_tree.specs.Paths.{root}

-- the search paths of a name, for an object that is searched for in these directories
abbrev pub all_paths : List ℕ → Env → Reach → Option (List ℕ) → List (List ℕ)
all_paths name env reach cached = if has_slash name then from_root name ∷ [] else paths_by name env reach cached

-- ---- the remaining directories and paths

-- the remaining directories before the cache
abbrev pub dirs_left : FirstDirs → List (List ℕ)
dirs_left s = s.list.now ++ rpaths_from s.loaders.now s.above ++ s.second.now ++ s.third.now

abbrev pub IsInside : FirstDirs → Type 0
IsInside s = IfSome s.above (λ i. i < length s.loaders.now)

-- a measure of the remaining lists; the last list counts twice
abbrev pub lists_left : FirstDirs → ℕ
lists_left s = option_map_or suc s.above 0 + length s.second.now + 2 * length s.third.now

-- the same directories, with a smaller measure
pub record IsRefilled (old new : FirstDirs) : Type 0 where
  pub left : dirs_left new ≡ dirs_left old
  pub inside : IsInside new
  pub fewer : lists_left new < lists_left old

-- the remaining default directories
abbrev pub defaults_left : DefaultDirs → List (List ℕ)
defaults_left s = drop s.done (system_dirs_of s.system)

-- the remaining paths in the current directory
abbrev pub paths_at : List ℕ → Option At → List (List ℕ)
paths_at name None = []
paths_at name (Some at) = map (hwcaps_path at.dir.now name) at.caps.now ++ (at.dir.now ++ root ++ name) ∷ []

-- the paths after those in the current directory
abbrev pub paths_after : Candidates → List (List ℕ)
paths_after s =
    flat_map (paths_in s.name.now s.caps.now) (dirs_left s.first)
    ++ option_to_list (option_copied s.cached)
    ++ flat_map (paths_in s.name.now s.caps.now) (defaults_left s.defaults)

abbrev pub paths_left : Candidates → List (List ℕ)
paths_left s = s.listed.now ++ option_to_list s.whole ++ paths_at s.name.now s.at ++ paths_after s

-- the first path, if there is one, and the paths after it
abbrev pub IsNext : Option (List ℕ) → List (List ℕ) → List (List ℕ) → Type 0
IsNext None all rest = (all ≡ []) × (rest ≡ [])
IsNext (Some path) all rest = all ≡ path ∷ rest

-- the first path and the paths after it
abbrev pub IsNextAt : Option (List ℕ) → List (List ℕ) → List (List ℕ) → Type 0
IsNextAt None all rest = ⊥
IsNextAt (Some path) all rest = all ≡ path ∷ rest
