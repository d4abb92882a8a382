-- The libraries of directories, from the rows of a table with the ELF information of their files.
use Rattle.std.specs.Prelude.{◌≡◌, ℕ, List, [], ◌∷◌, ◌++◌, if◌then◌else◌, Option, None}
use Rattle.std.specs.List.{filter_map}
use Rattle.std.specs.Map.{keys_of}
use Rattle.std.specs.Str.{bytes_eq}
use Rattle.hwcap_dirs.specs.declared.kinds.Place.{Place}
use Rattle.image_tree.specs.Tree.{Nodes}
use Rattle.lib_types.specs.declared.analysis.Analysis.{Analysis}
use Rattle.path_walk.specs.Names.{last, parent}
use Rattle.file_table.specs.Analyses.{analysed}
use Rattle.place_libraries.specs.Libraries.{library_by}
use Rattle.place_libraries.specs.Library.{Library}
use Rattle.library_files.specs.Search.{wanted}
use Rattle.file_table.specs.Table.{Rows, analysis_at}

-- The rows are exactly those of files with library names in these search directories, sorted by the bytes of their paths.
abbrev pub AreOfPlaces : Nodes → List Place → Rows → Type 0
AreOfPlaces t places rows = keys_of rows ≡ analysed (analysis_at rows) (wanted t places)

-- the library of a row, if its file is in this directory
abbrev pub library_of : List ℕ → List ℕ × Analysis → Option Library
library_of folder row = if bytes_eq (parent row.0) folder then library_by (last row.0) (last row.0) row.1 else None

-- the libraries of a directory
abbrev pub libraries_among : Rows → List ℕ → List Library
libraries_among rows folder = filter_map (library_of folder) rows

-- The contract of a private function: adds the library of a row to the libraries of its directory.
abbrev pub with_row : List ℕ × Analysis → List (List ℕ) → List (List Library) → List (List Library)
with_row row (folder ∷ folders) (libraries ∷ found) = (libraries ++ filter_map (library_of folder) (row ∷ [])) ∷ with_row row folders found
with_row row (folder ∷ folders) [] = []
with_row row [] found = found
