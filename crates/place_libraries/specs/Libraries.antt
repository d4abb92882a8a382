-- The libraries of a search directory, given the ELF information of its files (ldconfig(8); gABI: DT_SONAME).
use Rattle.std.specs.Prelude.{ℕ, List, Option, Some, None, unwrap_or}
use Rattle.std.specs.List.{filter_map}
use Rattle.std.specs.Option.{option_and_then}
use Rattle.hwcap_dirs.specs.declared.kinds.Place.{Place}
use Rattle.lib_types.specs.declared.analysis.Analysis.{Analysis}
use Rattle.lib_types.specs.declared.analysis.Analysis.TheVariants.{Lib, Not}
use Rattle.image_tree.specs.Tree.{Nodes, children_of}
use Rattle.library_files.specs.Search.{file_in}
use Rattle.file_table.specs.Analyses.{Analyses}
use Rattle.place_libraries.specs.Library.{Library}

-- The soname of a library is its DT_SONAME, or its file's own name if it has none.
abbrev pub library_by : List ℕ → List ℕ → Analysis → Option Library
library_by name own (Lib abi soname) = Some (record { name = name; soname = unwrap_or soname own; abi = abi })
library_by name own (Not defect) = None

-- the library that a file, or a link to it, provides under this name; None if the file has no ELF information or isn't a library
abbrev pub library_at : Analyses → List ℕ → List ℕ → List ℕ → Option Library
library_at what path name own = option_and_then (library_by name own) (what path)

-- the library with this name in a directory
abbrev pub library_in : Analyses → Nodes → List ℕ → List ℕ → Option Library
library_in what t folder name = option_and_then (λ path. library_at what path name name) (file_in t folder name)

-- the files with library names in a directory that are libraries
abbrev pub libraries_at : Analyses → Nodes → List ℕ → List Library
libraries_at what t folder = filter_map (library_in what t folder) (children_of t folder)

abbrev pub libraries_in : Analyses → Nodes → Place → List Library
libraries_in what t place = libraries_at what t place.real
