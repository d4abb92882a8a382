-- The two images of a sample that are updated.
use Rattle.std.specs.Prelude.{ℕ, ◌+◌, [], fold, length, Some, None, if◌then◌else◌}
use Rattle.hwcap_dirs.specs.declared.kinds.Scope.TheVariants.{Image}
use Rattle.image_tree.specs.declared.node.Id.{Id}
use Rattle.image_tree.specs.declared.node.Node.{Node}
use Rattle.image_tree.specs.declared.node.Node.TheVariants.{File}
use Rattle.ldconfig_core.specs.Settled.{planned_image}
use Rattle.image_session.specs.Edit.{with_node, without_node}
use Rattle.image_session.specs.Session.{Loaded, image_with}
use Rattle.tree_face.specs.Store.{Contents}
use Rattle.sample_runs.specs.declared.files.SampleFile.{SampleFile}
use Rattle.sample_runs.specs.Files.{content, has_hwcaps_file, hwcaps_path, is_replaced, key, library_path, sample_files}

-- ---- nodes

-- the identity of a library's file: all are on one device
abbrev pub id_of : SampleFile → ℕ → ℕ → Id
id_of file inode ctime = record { dev = 1; inode = inode; ctime = ctime; size = length (content file) }

abbrev pub node_of : SampleFile → ℕ → ℕ → Node
node_of file inode ctime = File (key file) (Some (id_of file inode ctime))

-- ---- the first image

-- with the file in /usr/lib
abbrev pub with_library : Loaded → SampleFile → Loaded
with_library image file = with_node image (library_path file file.minor) (node_of file (file.index + 1) 1)

-- with the file for processors of x86-64-v3
abbrev pub with_hwcaps_file : ℕ → Loaded → SampleFile → Loaded
with_hwcaps_file n image file = with_node image (hwcaps_path file) (node_of file (n + file.index + 1) 1)

-- with the files of this library, one of n
abbrev pub with_files : ℕ → Loaded → SampleFile → Loaded
with_files n image file = if has_hwcaps_file file then with_hwcaps_file n (with_library image file) file else with_library image file

abbrev pub empty_image : Loaded
empty_image = image_with [] None

unfoldable pub first_image : ℕ → Loaded
first_image n = fold (with_files n) empty_image (sample_files n)

-- ---- the second image

-- the library in /usr/lib has a newer file
abbrev pub with_newer : Loaded → SampleFile → Loaded
with_newer image file = with_node (without_node image (library_path file file.minor)) (library_path file (file.minor + 1)) (node_of file (file.index + 1) 2)

-- the same if the library is one that is replaced
abbrev pub with_replaced : Loaded → SampleFile → Loaded
with_replaced image file = if is_replaced file then with_newer image file else image

abbrev pub all_replaced : ℕ → Loaded → Loaded
all_replaced n image = fold with_replaced image (sample_files n)

-- the image that the first update leaves, with some libraries replaced
unfoldable pub second_image : Contents → ℕ → Loaded
second_image held n = all_replaced n (planned_image Image held (first_image n))
