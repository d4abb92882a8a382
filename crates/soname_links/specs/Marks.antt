-- The sonames that are reported.
use Rattle.std.specs.Prelude.{ℕ, Bool, false, List, [], ◌&&◌, not, nat_eq, if◌then◌else◌, map, Option, Some, None}
use Rattle.std.specs.List.{filter_map}
use Rattle.hwcap_dirs.specs.declared.kinds.Place.{Place}
use Rattle.lib_types.specs.Abi.{flags_of}
use Rattle.image_tree.specs.Paths.{join}
use Rattle.image_tree.specs.Tree.{Nodes}
use Rattle.place_libraries.specs.Best.{best, bests}
use Rattle.place_libraries.specs.Libraries.{libraries_in}
use Rattle.string_pool.specs.Order.{ascending}
use Rattle.library_files.specs.Places.{by_place, has_no_cap}
use Rattle.soname_links.specs.Plan.{is_blocked, is_regarded}
use Rattle.file_table.specs.Analyses.{Analyses}
use Rattle.place_libraries.specs.Library.{Library}
use Rattle.link_plan.specs.declared.kinds.Mark.{Mark}

abbrev pub mark : ℕ → List ℕ → Mark
mark number soname = record { place = number; soname = soname }

-- ---- blocked sonames: a link is wanted, but none can be created

abbrev pub blocked_for : Nodes → ℕ → Place → Library → Option Mark
blocked_for t number place best = if is_regarded best && is_blocked t (join place.real best.soname) then Some (mark number best.soname) else None

abbrev pub blocked_in : Analyses → Nodes → ℕ → Place → List Mark
blocked_in what t number place = if has_no_cap place then filter_map (blocked_for t number place) (bests (libraries_in what t place)) else []

unfoldable pub blocked : Analyses → Nodes → List Place → List Mark
blocked what t places = by_place (blocked_in what t) 0 places

-- ---- mixed sonames: libraries of one search directory have this soname, but different ABIs

-- its ABI differs from that of the best library with the same soname
abbrev pub is_odd : Option Library → Library → Bool
is_odd (Some best) library = not (nat_eq (flags_of best.abi) (flags_of library.abi))
is_odd None library = false

abbrev pub odd_soname : Option Library → Library → Option (List ℕ)
odd_soname best library = if is_odd best library then Some library.soname else None

-- the sonames of the libraries whose ABI differs from that of the best library with the same soname
abbrev pub mixed_among : List Library → List (List ℕ)
mixed_among libraries = ascending (filter_map (λ library. odd_soname (best libraries library.soname) library) libraries)

abbrev pub mixed_in : Analyses → Nodes → ℕ → Place → List Mark
mixed_in what t number place = map (mark number) (mixed_among (libraries_in what t place))

unfoldable pub mixed : Analyses → Nodes → List Place → List Mark
mixed what t places = by_place (mixed_in what t) 0 places
