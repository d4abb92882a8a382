-- What private functions compute: the libraries of a search directory grouped by soname, and the links and marks of each soname.
use Rattle.std.specs.Prelude.{ℕ, ◌+◌, false, List, [], ◌∷◌, ◌++◌, ◌||◌, if◌then◌else◌, filter, fold, map, Option, Some, None}
use Rattle.std.specs.List.{filter_map}
use Rattle.std.specs.Option.{option_map}
use Rattle.std.specs.Str.{bytes_eq}
use Rattle.hwcap_dirs.specs.declared.kinds.Place.{Place}
use Rattle.image_tree.specs.Tree.{Nodes}
use Rattle.image_tree.specs.declared.node.Node.{Node}
use Rattle.image_tree.specs.declared.node.Node.TheVariants as nodes
use Rattle.place_libraries.specs.Best.{bests, has_soname, is_preferred, sonames}
use Rattle.file_table.specs.Analyses.{Analyses}
use Rattle.place_libraries.specs.Libraries.{libraries_at}
use Rattle.soname_links.specs.Marks.{blocked_for, is_odd, mark, mixed_among}
use Rattle.soname_links.specs.Plan.{is_blocked, link_for}
use Rattle.library_files.specs.Places.{has_no_cap, links_to}
use Rattle.soname_links.specs.declared.groups.Group.{Group}
use Rattle.place_libraries.specs.Library.{Library}
use Rattle.link_plan.specs.declared.kinds.Mark.{Mark}
use Rattle.link_plan.specs.declared.kinds.Planned.{Planned}
use Rattle.soname_links.specs.declared.surveying.Spot.{Spot}
use Rattle.soname_links.specs.declared.surveying.Spot.TheVariants.{Blocked, Linked, Free}

-- ---- the libraries of one soname

-- adds a library, which is compared with the best one so far
abbrev pub extended : Group → Library → Group
extended group library = record {
  best = if is_preferred library group.best then library else group.best;
  mixed = group.mixed || is_odd (Some group.best) library;
}

abbrev pub keyed : List Library → List (List ℕ × Library)
keyed libraries = map (λ library. (library.soname, library)) libraries

abbrev pub with_library : Option Group → Library → Option Group
with_library None library = Some (record { best = library; mixed = false })
with_library (Some group) library = Some (extended group library)

-- the libraries with this soname, if there are any
abbrev pub group_at : List Library → List ℕ → Option Group
group_at libraries soname = fold with_library None (filter (has_soname soname) libraries)

abbrev pub group_with : List Library → List ℕ → Option (List ℕ × Group)
group_with libraries soname = option_map (λ group. (soname, group)) (group_at libraries soname)

-- the libraries of each soname, ordered by the bytes of the sonames
abbrev pub groups : List Library → List (List ℕ × Group)
groups libraries = filter_map (group_with libraries) (sonames libraries)

-- ---- the links and marks of a soname

-- what is at the path where a link to this file is wanted
abbrev pub spot_at : Nodes → List ℕ → List ℕ → Spot
spot_at t path file = if is_blocked t path then Blocked else (if links_to t path file then Linked else Free)

-- the same, given the node at the path
abbrev pub spot_by : List ℕ → Node → Spot
spot_by file (nodes.Link target) = if bytes_eq target file then Linked else Free
spot_by file nodes.Dir = Blocked
spot_by file (nodes.File key id) = Blocked

-- the links of a search directory, given the best libraries in it
abbrev pub links_by : Nodes → ℕ → Place → List Library → List Planned
links_by t number place bests = if has_no_cap place then filter_map (link_for t number place) bests else []

abbrev pub blocked_by : Nodes → ℕ → Place → List Library → List Mark
blocked_by t number place bests = if has_no_cap place then filter_map (blocked_for t number place) bests else []

abbrev pub mixed_soname : List ℕ × Group → Option (List ℕ)
mixed_soname e = if e.1.mixed then Some e.0 else None

-- ---- the libraries of a directory

-- the best libraries of a directory, and the sonames that have different ABIs there
abbrev pub bests_at : Analyses → Nodes → List ℕ → List Library
bests_at what t folder = bests (libraries_at what t folder)

abbrev pub mixed_at : Analyses → Nodes → List ℕ → List (List ℕ)
mixed_at what t folder = mixed_among (libraries_at what t folder)

-- the sonames that have different ABIs in a search directory
abbrev pub mixed_sonames : Analyses → Nodes → Place → List (List ℕ)
mixed_sonames what t place = mixed_at what t place.real

-- ---- the marks of the search directories

-- the marks of a search directory, given its sonames with different ABIs
abbrev pub mixed_by : ℕ → Place → List (List ℕ) → List Mark
mixed_by number place sonames = map (mark number) sonames

-- the results for each search directory, computed from its number and its item, in order
abbrev pub by_place_with : {X A : Type 0} → (ℕ → Place → X → List A) → ℕ → List Place → List X → List A
by_place_with gives number [] items = []
by_place_with gives number (place ∷ places) [] = []
by_place_with gives number (place ∷ places) (item ∷ items) = gives number place item ++ by_place_with gives (number + 1) places items
