use Rattle.std.proofs.Common.{◌≡◌, ◌++◌}
use Rattle.std.specs.List.{filter_map}
use Rattle.hwcap_dirs.specs.Places.{place_of_name, hwcap_places}
use Rattle.hwcap_dirs.proofs.listing.add_below.Given as goal

-- the remaining names give the rest
abbrev pub invariant-loop-name : goal.invariant-loop-name
invariant-loop-name l = l.places ++ filter_map (place_of_name l.tree l.folder) l.name-iterator ≡ l.fn.places ++ hwcap_places l.tree l.folder
