-- The state before files are read.
use Rattle.std.specs.Prelude.{ℕ, List, ◌++◌}
use Rattle.aux_cache.specs.declared.stamps.Stamp.{Stamp}
use Rattle.file_table.specs.Analyses.{Analyses, unread}
use Rattle.library_files.specs.FoundFile.{FoundFile, paths_of}
use Rattle.file_table.specs.Table.{analysis_at}
use Rattle.image_tree.specs.declared.node.Id.{Id}
use Rattle.image_tree.specs.Tree.{Nodes}
use Rattle.tree_face.specs.Store.{Contents}
use Rattle.file_stamps.specs.Info.{info_in, info_stamps}
use Rattle.file_stamps.specs.Opened.{ids_of}
use Rattle.file_stamps.specs.declared.files.Files.{Files}

-- all stamps: the loaded ones and those that were made
abbrev pub stamps_there : List Stamp → Files → List Stamp
stamps_there loaded files = loaded ++ files.stamps

-- the identities that have stamps
abbrev pub ids_there : List Stamp → Files → List Id
ids_there loaded files = ids_of (stamps_there loaded files)

-- those of the paths whose files have no analysis yet
abbrev pub unread_paths : Files → List (List ℕ) → List (List ℕ)
unread_paths files paths = unread (analysis_at files.table) paths

-- the paths of those files that have no analysis yet
abbrev pub unread_in : Files → List FoundFile → List (List ℕ)
unread_in files found = unread_paths files (paths_of found)

-- the analyses of the files at these paths, from the existing stamps or the contents
abbrev pub info_there : Contents → Nodes → List Stamp → Files → List (List ℕ) → Analyses
info_there held t loaded files paths = info_in held t (stamps_there loaded files) paths

-- the stamps that are made from these files
abbrev pub made_there : Contents → Nodes → List Stamp → Files → List (List ℕ) → List Stamp
made_there held t loaded files paths = info_stamps t (info_there held t loaded files paths) paths
