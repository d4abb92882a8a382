-- The list that represents a table of ELF information.
use Rattle.std.specs.Prelude.{ℕ, Bool, List, Option}
use Rattle.std.specs.List.{list_all}
use Rattle.std.specs.Map.{lookup}
use Rattle.std.specs.Str.{bytes_eq}
use Rattle.indexmap.specs.IndexMap.{insert_entry}
use Rattle.lib_types.specs.declared.analysis.Analysis.{Analysis}
use Rattle.file_table.specs.Analyses.{has_name}

-- paths, each with the ELF information of its file
abbrev pub Rows : Type 0
Rows = List (List ℕ × Analysis)

-- the ELF information of a path, from the first row with that path
abbrev pub analysis_at : Rows → List ℕ → Option Analysis
analysis_at rows path = lookup (bytes_eq path) rows

-- sets the ELF information of a path, replacing the old one
abbrev pub with_analysis : Rows → List ℕ → Analysis → Rows
with_analysis rows path analysis = insert_entry bytes_eq rows path analysis

-- each soname is a valid name
abbrev pub have_names : Rows → Bool
have_names rows = list_all (λ e. has_name e.1) rows
