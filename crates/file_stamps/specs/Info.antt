-- The analyses that an update gets from stamps or contents. It reads files in order, and opens a file only if its identity has no stamp
-- when its turn comes. ldconfig(8) keeps stamps in the auxiliary cache.
use Rattle.std.specs.Prelude.{◌++◌, ℕ, List}
use Rattle.std.specs.List.{before_first, filter_map}
use Rattle.std.specs.Option.{option_map, option_or}
use Rattle.std.specs.Str.{bytes_eq}
use Rattle.aux_cache.specs.declared.stamps.Stamp.{Stamp}
use Rattle.file_table.specs.Analyses.{Analyses}
use Rattle.image_tree.specs.Tree.{Nodes}
use Rattle.tree_face.specs.Store.{Contents}
use Rattle.file_stamps.specs.Files.{what_is}
use Rattle.file_stamps.specs.Stamped.{id_at, of_stamp, stamp_by, stamp_for, stamps_at}

-- the analysis of the file at a path from these stamps, or else from its content
abbrev pub info_by : Contents → Nodes → List Stamp → Analyses
info_by held t stamps path = option_or (option_map of_stamp (stamp_for stamps t path)) (what_is held t path)

-- the stamps when a file's turn comes: the loaded ones, and those of the files that were read before it
abbrev pub stamps_before : Contents → Nodes → List Stamp → List (List ℕ) → List ℕ → List Stamp
stamps_before held t loaded paths path = loaded ++ stamps_at held t (before_first (bytes_eq path) paths)

-- The analyses of the files at these paths, if they are read in this order. If the identity of a file has a loaded stamp, the stamp counts.
-- Otherwise the content of the first file with this identity counts, or the file's own content if it has no identity.
abbrev pub info_in : Contents → Nodes → List Stamp → List (List ℕ) → Analyses
info_in held t loaded paths path = info_by held t (stamps_before held t loaded paths path) path

-- the stamps of those files at these paths that have an identity, in order
abbrev pub info_stamps : Nodes → Analyses → List (List ℕ) → List Stamp
info_stamps t what paths = filter_map (λ path. stamp_by (id_at t path) (what path)) paths
