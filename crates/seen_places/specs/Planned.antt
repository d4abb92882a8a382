-- The paths that are looked up in a directory after links are planned for it.
use Rattle.std.specs.Prelude.{ℕ, Bool, List, not, filter, map}
use Rattle.std.specs.List.{list_any}
use Rattle.std.specs.Str.{bytes_eq}
use Rattle.hwcap_dirs.specs.declared.kinds.Place.{Place}
use Rattle.image_tree.specs.Tree.{Nodes}
use Rattle.link_plan.specs.declared.kinds.Planned.{Planned}
use Rattle.seen_tree.specs.Seen.{Seen, seen, with_paths}
use Rattle.soname_links.specs.Plan.{with_links}
use Rattle.seen_places.specs.Looked.{followed_looked}

-- a link is planned at this path
abbrev pub is_put : List Planned → List ℕ → Bool
is_put plan path = list_any (λ planned. bytes_eq path planned.path) plan

-- the paths at which no link is planned
abbrev pub unput : List Planned → List (List ℕ) → List (List ℕ)
unput plan paths = filter (λ path. not (is_put plan path)) paths

-- The links with library names in the search directories after the planned links are put: a planned link itself isn't looked up.
unfoldable pub planned_looked : Nodes → List Planned → List Place → List (List ℕ)
planned_looked t plan places = unput plan (followed_looked (with_links t plan) places)

-- what was seen of the directory, with the planned links
abbrev pub with_plan : Seen → List Planned → Seen
with_plan s plan = seen (with_links s.part plan) (with_paths s.looked (map (λ planned. planned.path) plan))
