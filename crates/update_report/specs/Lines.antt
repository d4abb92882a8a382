-- The lines of a report, one definition for each kind.
use Rattle.std.specs.Prelude.{ℕ, Bool, List, [], ◌∷◌, ◌++◌, ◌&&◌, not, if◌then◌else◌, codes, slice_get, Option, Some, None}
use Rattle.std.specs.Fmt.{decimal}
use Rattle.std.specs.Ordering.{is_eq}
use Rattle.std.specs.Str.{bytes_eq}
use Rattle.hwcap_dirs.specs.declared.kinds.Place.{Place}
use Rattle.ldso_conf.specs.declared.kinds.ConfKind.{ConfKind}
use Rattle.ldso_conf.specs.declared.kinds.ConfKind.TheVariants.{NotFile, Repeated, TooDeep, TooLarge, Relative, Equals, Hwcap, LongPath}
use Rattle.ldso_conf.specs.declared.kinds.ConfReport.{ConfReport}
use Rattle.name_order.specs.Order.{token_order}
use Rattle.image_tree.specs.Paths.{join}
use Rattle.link_plan.specs.declared.kinds.Mark.{Mark}
use Rattle.link_plan.specs.declared.kinds.Planned.{Planned}
use Rattle.lib_types.specs.Defects.{defect_text}
use Rattle.update_report.specs.declared.kinds.Skipped.{Skipped}

abbrev pub line : List ℕ → List ℕ
line text = text ++ 10 ∷ []

-- ---- the auxiliary cache

-- the offset at which the auxiliary cache was corrupt when it was loaded, or no line
abbrev pub damaged_line : Option ℕ → List ℕ
damaged_line None = []
damaged_line (Some at) = line (codes "aux: Damaged " ++ decimal at)

-- ---- the conf file

abbrev pub conf_name : ConfKind → List ℕ
conf_name NotFile = codes "NotFile"
conf_name Repeated = codes "Repeated"
conf_name TooDeep = codes "TooDeep"
conf_name TooLarge = codes "TooLarge"
conf_name Relative = codes "Relative"
conf_name Equals = codes "Equals"
conf_name Hwcap = codes "Hwcap"
conf_name LongPath = codes "LongPath"

abbrev pub conf_line : ConfReport → List ℕ
conf_line report = line (codes "conf: " ++ report.place ++ codes ": " ++ conf_name report.kind)

abbrev pub absent_line : List ℕ → List ℕ
absent_line dir = line (codes "conf: " ++ dir ++ codes ": Absent")

-- ---- sonames in search directories

abbrev pub spelled_of : Option Place → List ℕ
spelled_of (Some place) = place.spelled
spelled_of None = []

-- the path of the search directory with this number, before links are resolved; empty if no directory has this number
abbrev pub spelled_at : List Place → ℕ → List ℕ
spelled_at places number = spelled_of (slice_get places number)

abbrev pub link_line : List Place → Planned → List ℕ
link_line places planned = line (codes "link: " ++ join (spelled_at places planned.place) planned.soname ++ codes " -> " ++ planned.file)

abbrev pub blocked_line : List Place → Mark → List ℕ
blocked_line places mark = line (codes "blocked: " ++ join (spelled_at places mark.place) mark.soname)

abbrev pub mixed_line : List Place → Mark → List ℕ
mixed_line places mark = line (codes "mixed: " ++ spelled_at places mark.place ++ codes " " ++ mark.soname)

-- ---- files and links

abbrev pub skip_line : Skipped → List ℕ
skip_line skipped = line (codes "skip: " ++ skipped.path ++ codes ": " ++ defect_text skipped.defect)

abbrev pub dangling_line : List ℕ → List ℕ
dangling_line path = line (codes "dangling: " ++ path)

-- ---- entries

-- different sonames that compare equal in the loader's order
abbrev pub are_twins : List ℕ → List ℕ → Bool
are_twins a b = not (bytes_eq a b) && is_eq (token_order a b)

abbrev pub twin_line : List ℕ → List ℕ → List ℕ
twin_line a b = line (codes "twin: " ++ a ++ codes " " ++ b)

-- the line for two neighbouring sonames, if they compare equal
abbrev pub line_of_twins : List ℕ × List ℕ → List ℕ
line_of_twins pair = if are_twins pair.0 pair.1 then twin_line pair.0 pair.1 else []

-- the numbers of cache entries, of planned links and of library files that were opened
abbrev pub last_line : ℕ → ℕ → ℕ → List ℕ
last_line entries links opened = line (decimal entries ++ codes " libs, " ++ decimal links ++ codes " links, " ++ decimal opened ++ codes " files opened")
