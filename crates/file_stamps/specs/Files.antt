-- The analyses of an image's files, and the files that are read for its cache (ldconfig(8)).
use Rattle.std.specs.Prelude.{◌≡◌, ℕ, true, List, if◌then◌else◌, Option, None, is_none}
use Rattle.std.specs.List.{list_any}
use Rattle.std.specs.Option.{option_map, option_and_then}
use Rattle.std.specs.Str.{bytes_eq}
use Rattle.elf_dynamic.specs.Analysis.{analysis}
use Rattle.elf_dynamic.specs.Begun.{key_in}
use Rattle.file_table.specs.Analyses.{Analyses}
use Rattle.tree_face.specs.Store.{Contents}
use Rattle.image_tree.specs.Tree.{Nodes, node_at}

-- ---- the analysis of a file

-- the analysis of the content of the file at a path; none if a file is missing there or its content isn't held
abbrev pub what_is : Contents → Nodes → Analyses
what_is held t path = option_map analysis (option_and_then held (key_in (node_at t path)))

-- ---- the files that are opened

-- the key of the file at a path, if the file has no analysis yet
abbrev pub unread_key : Nodes → Analyses → List ℕ → Option (List ℕ)
unread_key t what path = if is_none (what path) then key_in (node_at t path) else None

-- ---- the state after files were read

-- each file at these paths has an analysis
abbrev pub AreRead : Nodes → Analyses → List (List ℕ) → Type 0
AreRead t what paths = (path : List ℕ) → list_any (bytes_eq path) paths ≡ true → unread_key t what path ≡ None
