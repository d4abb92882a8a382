-- The ELF information of each file, as a function of its path.
-- The definitions of libraries, links and entries use this function, not a table.
use Rattle.std.specs.Prelude.{◌≡◌, ℕ, Bool, true, List, filter, Option, Some, None}
use Rattle.std.specs.List.{list_any}
use Rattle.std.specs.Option.{is_none, is_some}
use Rattle.std.specs.Str.{bytes_eq}
use Rattle.lib_types.specs.Name.{is_name}
use Rattle.lib_types.specs.declared.analysis.Analysis.{Analysis}
use Rattle.lib_types.specs.declared.analysis.Analysis.TheVariants.{Lib, Not}

-- the ELF information of the file at a path, if it is known
abbrev pub Analyses : Type 0
Analyses = List ℕ → Option Analysis

abbrev pub is_soname : Option (List ℕ) → Bool
is_soname (Some soname) = is_name soname
is_soname None = true

-- the soname, if there is one, is a valid name
abbrev pub has_name : Analysis → Bool
has_name (Lib abi soname) = is_soname soname
has_name (Not defect) = true

-- each soname is a valid name
abbrev pub HaveNames : Analyses → Type 0
HaveNames what = (path : List ℕ) (analysis : Analysis) → what path ≡ Some analysis → has_name analysis ≡ true

-- each of these paths has ELF information
abbrev pub HaveAnalyses : Analyses → List (List ℕ) → Type 0
HaveAnalyses what paths = (path : List ℕ) → list_any (bytes_eq path) paths ≡ true → is_some (what path) ≡ true

-- each path that has ELF information keeps it
abbrev pub KeepsAnalyses : Analyses → Analyses → Type 0
KeepsAnalyses what new = (path : List ℕ) → is_some (what path) ≡ true → new path ≡ what path

-- both have the same ELF information for these paths
abbrev pub AgreeOn : List (List ℕ) → Analyses → Analyses → Type 0
AgreeOn paths what new = (path : List ℕ) → list_any (bytes_eq path) paths ≡ true → new path ≡ what path

-- the paths that have no ELF information
abbrev pub unread : Analyses → List (List ℕ) → List (List ℕ)
unread what paths = filter (λ path. is_none (what path)) paths

-- the paths that have ELF information
abbrev pub analysed : Analyses → List (List ℕ) → List (List ℕ)
analysed what paths = filter (λ path. is_some (what path)) paths
