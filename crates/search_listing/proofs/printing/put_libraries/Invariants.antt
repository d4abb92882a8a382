use Rattle.std.proofs.Common.{◌≡◌, ◌++◌}
use Rattle.std.specs.List.{flat_map}
use Rattle.search_listing.specs.Listing.{library_text}
use Rattle.search_listing.proofs.printing.put_libraries.Given as goal

-- the remaining libraries give the rest
abbrev pub invariant-loop-library : goal.invariant-loop-library
invariant-loop-library l = l.out.items ++ flat_map (library_text l.made l.place) l.library-iterator ≡ l.fn.out.items ++ flat_map (library_text l.made l.place) l.bests
