-- The targets of links with library names that aren't read yet.
use Rattle.std.specs.Prelude.{ℕ, List}
use Rattle.aux_cache.specs.declared.stamps.Stamp.{Stamp}
use Rattle.library_files.specs.Search.{reached}
use Rattle.hwcap_dirs.specs.declared.kinds.Dirs.{Dirs}
use Rattle.image_tree.specs.Tree.{Nodes}
use Rattle.file_stamps.specs.Opened.{opened_keys}
use Rattle.file_stamps.specs.State.{ids_there, made_there, info_there, unread_paths}
use Rattle.file_table.specs.Analyses.{Analyses}
use Rattle.file_stamps.specs.declared.files.Files.{Files}
use Rattle.tree_face.specs.Store.{Contents}

-- the paths of the targets that have no analysis yet
abbrev pub unread_after : Files → Nodes → Dirs → List (List ℕ)
unread_after files t dirs = unread_paths files (reached t dirs.places)

-- the keys of the targets that are opened
abbrev pub opened_after : List Stamp → Files → Nodes → Dirs → List (List ℕ)
opened_after loaded files t dirs = opened_keys t (ids_there loaded files) (unread_after files t dirs)

-- the analyses of the targets
abbrev pub info_after : Contents → List Stamp → Files → Nodes → Dirs → Analyses
info_after held loaded files t dirs = info_there held t loaded files (unread_after files t dirs)

-- the stamps that are made from the targets
abbrev pub made_after : Contents → List Stamp → Files → Nodes → Dirs → List Stamp
made_after held loaded files t dirs = made_there held t loaded files (unread_after files t dirs)
