-- The search directories for libraries, in order (ldconfig(8), ld.so(8): glibc-hwcaps subdirectories).
use Rattle.std.specs.Prelude.{ℕ, Bool, true, false, List, [], ◌∷◌, ◌++◌, ◌&&◌, nat_eq, nat_le, length, drop, not, if◌then◌else◌, filter, flat_map, codes, Option, Some, None, option_map, is_none, Result, Ok, Err}
use Rattle.std.specs.List.{filter_map, list_all, starts_with}
use Rattle.std.specs.Str.{bytes_eq}
use Rattle.lib_types.specs.Abi.{abis, row_of}
use Rattle.lib_types.specs.Name.{is_name}
use Rattle.lib_types.specs.declared.abi.Abi.{Abi}
use Rattle.image_tree.specs.Paths.{join}
use Rattle.path_walk.specs.Walk.{resolution}
use Rattle.path_walk.specs.declared.walk.Mode.TheVariants.{Plain}
use Rattle.path_walk.specs.declared.walk.WalkFault.{WalkFault}
use Rattle.image_tree.specs.Node.{has_no_nul}
use Rattle.image_tree.specs.Tree.{Nodes, kind_at, children_of}
use Rattle.image_tree.specs.declared.tree.Kind.{Kind}
use Rattle.image_tree.specs.declared.tree.Kind.TheVariants as kinds
use Rattle.hwcap_dirs.specs.declared.kinds.Place.{Place}
use Rattle.hwcap_dirs.specs.declared.kinds.Scope.{Scope}
use Rattle.hwcap_dirs.specs.declared.kinds.Scope.TheVariants.{Image, Only, Root}
use Rattle.hwcap_dirs.specs.declared.kinds.TheConstants.{SPELLED_MAX}

-- ---- the directory that a path resolves to

abbrev pub is_dir : Kind → Bool
is_dir kinds.Dir = true
is_dir kinds.Absent = false
is_dir kinds.File = false
is_dir kinds.Link = false

abbrev pub dir_by : Nodes → Result (List ℕ) WalkFault → Option (List ℕ)
dir_by t (Ok place) = if is_dir (kind_at t place) then Some place else None
dir_by t (Err fault) = None

-- the directory that a path resolves to, if it resolves to a directory
abbrev pub dir_at : Nodes → List ℕ → Option (List ℕ)
dir_at t text = dir_by t (resolution t text Plain)

-- ---- the directories

-- the directories that the loader searches by default (ld.so(8))
abbrev pub system_dirs : List (List ℕ)
system_dirs = codes "/lib" ∷ codes "/usr/lib" ∷ codes "/lib64" ∷ codes "/usr/lib64" ∷ []

-- the directories of an ABI's libraries in Debian (its multiarch specification)
abbrev pub debian_dirs_of : Abi → List (List ℕ)
debian_dirs_of abi = drop 4 (row_of abi).usr_lib ∷ (row_of abi).usr_lib ∷ []

abbrev pub debian_dirs : List (List ℕ)
debian_dirs = flat_map debian_dirs_of abis

-- the directories that RISC-V's loader searches by default for the ABI lp64d (glibc's sysdeps/unix/sysv/linux/riscv)
abbrev pub lp64d_dirs : List (List ℕ)
lp64d_dirs = codes "/lib64/lp64d" ∷ codes "/usr/lib64/lp64d" ∷ []

abbrev pub all_builtin_dirs : List (List ℕ)
all_builtin_dirs = system_dirs ++ (debian_dirs ++ lp64d_dirs)

-- the directories that are searched after those of the conf file
abbrev pub builtin_dirs : Scope → List (List ℕ)
builtin_dirs Image = system_dirs
builtin_dirs (Root conf) = all_builtin_dirs
builtin_dirs (Only dirs) = []

-- a path as written, and the directory that it resolves to
abbrev pub Led : Type 0
Led = List ℕ × List ℕ

abbrev pub led_at : Nodes → List ℕ → Option Led
led_at t text = option_map (λ dir. (text, dir)) (dir_at t text)

abbrev pub leads_elsewhere : Led → Led → Bool
leads_elsewhere a b = not (bytes_eq b.1 a.1)

-- if several paths resolve to the same directory, only the first is kept
abbrev pub firsts : List Led → List Led
firsts [] = []
firsts (led ∷ rest) = led ∷ filter (leads_elsewhere led) (firsts rest)

abbrev pub kept : Scope → Nodes → List (List ℕ) → List Led
kept scope t conf = firsts (filter_map (led_at t) (conf ++ builtin_dirs scope))

-- ---- the subdirectories of a directory

abbrev pub hwcaps : List ℕ
hwcaps = codes "glibc-hwcaps"

abbrev pub is_hidden : List ℕ → Bool
is_hidden name = starts_with nat_eq name (codes ".")

abbrev pub hwcap_place : List ℕ → List ℕ → Option (List ℕ) → Option Place
hwcap_place text name (Some dir) = Some (record { spelled = text; real = dir; cap = Some name })
hwcap_place text name None = None

-- the search directory of a name in a `glibc-hwcaps` directory, if the name is that of a directory
abbrev pub place_of_name : Nodes → List ℕ → List ℕ → Option Place
place_of_name t folder name = if is_hidden name then None else hwcap_place (join folder name) name (dir_at t (join folder name))

abbrev pub places_below : Nodes → List ℕ → Option (List ℕ) → List Place
places_below t folder (Some dir) = filter_map (place_of_name t folder) (children_of t dir)
places_below t folder None = []

abbrev pub hwcap_places : Nodes → List ℕ → List Place
hwcap_places t folder = places_below t folder (dir_at t folder)

-- ---- the search directories

-- a directory, followed by its `glibc-hwcaps` subdirectories, sorted by the bytes of their names
abbrev pub places_of : Nodes → Led → List Place
places_of t led = record { spelled = led.0; real = led.1; cap = None } ∷ hwcap_places t (join led.0 hwcaps)

-- All search directories, given the conf file's directories. A search directory's number is its index.
unfoldable pub places : Scope → Nodes → List (List ℕ) → List Place
places scope t conf = flat_map (places_of t) (kept scope t conf)

-- each search directory is a directory of the tree
abbrev pub are_dirs : Nodes → List Place → Bool
are_dirs t places = list_all (λ place. is_dir (kind_at t place.real)) places

-- the hwcaps name, if there is one, is a valid name
abbrev pub is_cap : Option (List ℕ) → Bool
is_cap None = true
is_cap (Some name) = is_name name

-- the search directory's path is short and has no NUL, and its hwcaps name is valid
abbrev pub is_spelled : Place → Bool
is_spelled place = nat_le (length place.spelled) SPELLED_MAX && has_no_nul place.spelled && is_cap place.cap

abbrev pub are_spelled : List Place → Bool
are_spelled places = list_all is_spelled places

-- The conf file's directories that don't resolve to a directory.
unfoldable pub absent : Nodes → List (List ℕ) → List (List ℕ)
absent t conf = filter (λ text. is_none (dir_at t text)) conf
