-- The lines of a verbose update, in the form of glibc 2.36 (ldconfig(8), -v).
use Rattle.std.specs.Prelude.{ℕ, Bool, List, [], ◌∷◌, ◌++◌, ◌||◌, ◌==◌, not, if◌then◌else◌, codes, length, Option, Some, None}
use Rattle.std.specs.Fmt.{decimal}
use Rattle.std.specs.Str.{bytes_eq}
use Rattle.hwcap_dirs.specs.declared.kinds.Place.{Place}
use Rattle.ldso_conf.specs.declared.kinds.Origin.{Origin}
use Rattle.link_plan.specs.declared.kinds.Planned.{Planned}
use Rattle.place_libraries.specs.Library.{Library}

abbrev pub line : List ℕ → List ℕ
line text = text ++ 10 ∷ []

-- the name of a glibc-hwcaps subdirectory
abbrev pub cap_text : Option (List ℕ) → List ℕ
cap_text None = []
cap_text (Some name) = codes " (hwcap: \"" ++ name ++ codes "\")"

-- The file and the line that name a directory. Directories that are always searched are named by no file.
abbrev pub origin_text : Option Origin → List ℕ
origin_text None = codes "<builtin>:0"
origin_text (Some origin) = origin.file ++ codes ":" ++ decimal origin.line

-- The path of a search directory. A tree that is a directory of this machine has the directory's path as `front`, and its root is shown as
-- `front` alone.
abbrev pub shown : List ℕ → List ℕ → List ℕ
shown front spelled = if length front == 0 || not (bytes_eq spelled (codes "/")) then front ++ spelled else front

-- the line of a search directory
abbrev pub place_line : List ℕ → Place → Option Origin → List ℕ
place_line front place origin = line (shown front place.spelled ++ codes ":" ++ cap_text place.cap ++ codes " (from " ++ origin_text origin ++ codes ")")

abbrev pub changed_text : Bool → List ℕ
changed_text is_changed = if is_changed then codes " (changed)" else []

-- the line of a library, which says whether its link was made
abbrev pub library_line : Library → Bool → List ℕ
library_line library is_changed = line (9 ∷ library.soname ++ codes " -> " ++ library.name ++ changed_text is_changed)

-- the line of a link that an update would make
abbrev pub planned_line : List ℕ → Planned → List ℕ
planned_line front planned = line (codes "link: " ++ front ++ planned.path ++ codes " -> " ++ planned.file)
