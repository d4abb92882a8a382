-- Libraries that the loader can't search for: their soname or their file name breaks its binary search of the cache. Such a library counts
-- as none for the links and the entries of a directory, where the system's loader reads the cache. An update by a manifest enters it.
use Rattle.std.specs.Prelude.{◌≡◌, ℕ, Bool, ◌&&◌, true, List, if◌then◌else◌, Option}
use Rattle.std.specs.Option.{option_map, option_map_or}
use Rattle.file_table.specs.Analyses.{Analyses}
use Rattle.hwcap_dirs.specs.declared.kinds.Scope.{Scope}
use Rattle.hwcap_dirs.specs.declared.kinds.Scope.TheVariants.{Image, Only, Root}
use Rattle.lib_types.specs.declared.analysis.Analysis.{Analysis}
use Rattle.lib_types.specs.declared.analysis.Analysis.TheVariants.{Lib, Not}
use Rattle.lib_types.specs.declared.analysis.Defect.TheVariants.{Unsearchable}
use Rattle.path_walk.specs.Names.{last}
use Rattle.searchable_names.specs.Searchable.{is_searchable}

-- the loader can search for a library with this soname at this path
abbrev pub can_search : List ℕ → Option (List ℕ) → Bool
can_search path soname = is_searchable (last path) && option_map_or is_searchable soname true

-- what a file at this path counts as, given its analysis
abbrev pub judged_by : List ℕ → Analysis → Analysis
judged_by path (Lib abi soname) = if can_search path soname then Lib abi soname else Not Unsearchable
judged_by path (Not defect) = Not defect

unfoldable pub judged_all : Analyses → Analyses
judged_all what path = option_map (judged_by path) (what path)

abbrev pub judged : Scope → Analyses → Analyses
judged Image what = what
judged (Root conf) what = judged_all what
judged (Only dirs) what = judged_all what

-- each file counts as what these analyses say
abbrev pub AreJudged : Scope → Analyses → Type 0
AreJudged scope what = (path : List ℕ) → judged scope what path ≡ what path
