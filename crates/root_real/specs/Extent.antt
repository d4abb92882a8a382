-- How much of a directory belongs to its tree.
use Rattle.std.specs.Prelude.{ℕ, Bool, true, false, List, ◌&&◌, ◌==◌, ◌||◌, not, nat_eq, if◌then◌else◌, codes, drop, length}
use Rattle.std.specs.List.{list_any, starts_with}
use Rattle.std.specs.Str.{bytes_eq}
use Rattle.lib_types.specs.Bytes.{is_byte}
use Rattle.device_rules.specs.Paths.{has_up}
use Rattle.name_order.specs.LibraryName.{is_library_name}
use Rattle.root_real.specs.declared.extent.Extent.{Extent}
use Rattle.root_real.specs.declared.extent.Extent.TheVariants as extents
use Rattle.root_real.specs.declared.extent.Names.{Names}
use Rattle.root_real.specs.declared.extent.Names.TheVariants as names

-- the name of the directory of the subdirectories for processors, see ld.so(8)
abbrev pub caps : List ℕ
caps = codes "glibc-hwcaps"

abbrev pub has_name : Names → List ℕ → Bool
has_name names.All name = true
has_name names.Libraries name = is_library_name name
has_name names.LibrariesAndCaps name = is_library_name name || bytes_eq name caps
has_name names.Nothing name = false

-- the path of a subdirectory of glibc-hwcaps
abbrev pub is_cap_dir : List ℕ → Bool
is_cap_dir dir = starts_with nat_eq dir (codes "glibc-hwcaps/") && not (list_any (is_byte 47) (drop 13 dir))

-- Of a directory of libraries, the tree has the libraries in it and in its glibc-hwcaps subdirectories.
abbrev pub library_names_in : List ℕ → Names
library_names_in dir =
    if length dir == 0 then names.LibrariesAndCaps else
    if bytes_eq dir caps then names.All else
    if is_cap_dir dir then names.Libraries else
    names.Nothing

-- the names that belong to the tree in the directory of this path below its root
abbrev pub names_in : Extent → List ℕ → Names
names_in extents.Whole dir = names.All
names_in extents.Libraries dir = library_names_in dir

-- a link's target is absolute or has a component `..`
abbrev pub leads_out : List ℕ → Bool
leads_out target = starts_with nat_eq target (codes "/") || has_up target

-- the target of a link in the tree: a link that may lead out of a directory of libraries leads to a path at which the tree has nothing
abbrev pub target_in : Extent → List ℕ → List ℕ
target_in extents.Whole target = target
target_in extents.Libraries target = if leads_out target then codes "/outside" else target
