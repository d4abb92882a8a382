-- Facts that private functions state about a search directory that isn't a `glibc-hwcaps` subdirectory.
use Rattle.std.specs.Prelude.{ℕ, List, [], if◌then◌else◌}
use Rattle.std.specs.Option.{is_none}
use Rattle.hwcap_dirs.specs.Places.{dir_at, hwcaps}
use Rattle.hwcap_dirs.specs.declared.kinds.Place.{Place}
use Rattle.image_tree.specs.Paths.{join}
use Rattle.image_tree.specs.Tree.{Nodes}
use Rattle.looked_places.specs.Listed.{caps_listed}
use Rattle.seen_places.specs.Looked.{hwcaps_looked}

abbrev pub plain_looked : Nodes → Place → List (List ℕ)
plain_looked t place = if is_none place.cap then hwcaps_looked t (join place.spelled hwcaps) else []

abbrev pub plain_listed : Nodes → Place → List (List ℕ)
plain_listed t place = if is_none place.cap then caps_listed t (dir_at t (join place.spelled hwcaps)) else []
