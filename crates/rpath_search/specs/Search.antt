-- The result of a search (ld.so(8)): the first path that leads to a library of the program's ABI.
use Rattle.std.specs.Prelude.{◌≡◌, ℕ, ◌+◌, ◌==◌, Bool, true, false, if◌then◌else◌, List, take, find, Option, Some, None, Result, Ok, Err}
use Rattle.std.specs.List.{filter_map, position_or_len}
use Rattle.std.specs.Option.{option_and_then, option_map_or}
use Rattle.lib_types.specs.Abi.{flags_of}
use Rattle.lib_types.specs.declared.abi.Abi.{Abi}
use Rattle.lib_types.specs.declared.analysis.Analysis.{Analysis}
use Rattle.lib_types.specs.declared.analysis.Analysis.TheVariants.{Lib, Not}
use Rattle.lib_types.specs.declared.analysis.Defect.{Defect}
use Rattle.path_walk.specs.Files.{file_at}
use Rattle.tree_face.specs.Known.{IfKnown}
use Rattle.tree_face.specs.Store.{Contents, StoreState}
use Rattle.tree_face.specs.StoreUse.{Ending}
use Rattle.image_tree.specs.Tree.{Nodes, node_at}
use Rattle.elf_dynamic.specs.Analysis.{analysis, library_of}
use Rattle.elf_dynamic.specs.Object.{object}
use Rattle.elf_dynamic.specs.declared.kinds.Object.{Object}
use Rattle.elf_dynamic.specs.Faults.{HasName}
use Rattle.elf_dynamic.specs.Begun.{ReadsBy, file_keys, key_in}
use Rattle.rpath_search.specs.declared.kinds.Found.{Found}

-- ---- good paths

-- a library of this ABI; different ABIs have different flags
abbrev pub is_library_of : Abi → Analysis → Bool
is_library_of abi (Lib other soname) = flags_of other == flags_of abi
is_library_of abi (Not defect) = false

-- the content of the file at a path without links
abbrev pub content_at : Contents → Nodes → List ℕ → Option (List ℕ)
content_at held t real = option_and_then held (key_in (node_at t real))

-- the file at this path is a library of the ABI
abbrev pub is_library_at : Contents → Nodes → Abi → List ℕ → Bool
is_library_at held t abi real = option_map_or (λ bytes. is_library_of abi (analysis bytes)) (content_at held t real) false

-- the path leads to a library of the ABI after all links are followed
abbrev pub is_good : Contents → Nodes → Abi → List ℕ → Bool
is_good held t abi path = option_map_or (is_library_at held t abi) (file_at t path) false

-- the first good path
abbrev pub first_good : Contents → Nodes → Abi → List (List ℕ) → Option (List ℕ)
first_good held t abi paths = find (is_good held t abi) paths

-- ---- the ELF information of a library

abbrev pub object_if_ok : Result Object Defect → Option Object
object_if_ok (Ok o) = Some o
object_if_ok (Err d) = None

abbrev pub library_by : Abi → List ℕ → Option Object
library_by abi bytes = if is_library_of abi (analysis bytes) then object_if_ok (object bytes) else None

-- the ELF information of the file at a path without links, if the file is a library of this ABI
abbrev pub library_at : Contents → Nodes → Abi → List ℕ → Option Object
library_at held t abi real = option_and_then (library_by abi) (content_at held t real)

-- the ELF information is that of a library of this ABI
abbrev pub is_library : Abi → Object → Bool
is_library abi o = is_library_of abi (library_of o.abi o.etype o.dynamic)

-- ---- the files that are opened

-- the files to which the paths lead
abbrev pub files_of : Nodes → List (List ℕ) → List (List ℕ)
files_of t paths = filter_map (file_at t) paths

-- the number of paths that are tried: up to the first good one
abbrev pub looked_at : Contents → Nodes → Abi → List (List ℕ) → ℕ
looked_at held t abi paths = position_or_len (is_good held t abi) paths + 1

-- A search tries the first `count` paths. It opens the files to which they lead, in order, up to the first one whose content isn't held.
pub record Searches (known : Option Contents) (t : Nodes) (abi : Abi) (paths : List (List ℕ)) (ending : Ending) (old new : StoreState) : Type 0 where
  pub count : ℕ
  pub begins : ReadsBy known (file_keys t (files_of t (take count paths))) ending old new
  -- if contents are known, the last tried path is the first good one, or the last path
  pub exactly : IfKnown known (λ held. count ≡ looked_at held t abi paths)

-- ---- results

-- the path leads to this file, which is a library of this ABI, and the ELF information is the file's
pub record IsFound (known : Option Contents) (t : Nodes) (abi : Abi) (found : Found) : Type 0 where
  pub leads : file_at t found.path ≡ Some found.real
  pub object : IfKnown known (λ held. library_at held t abi found.real ≡ Some found.object)
  pub library : is_library abi found.object ≡ true
  pub name : HasName found.object
