use Rattle.std.proofs.Common.{◌≡◌, length, map, []}
use Rattle.place_libraries.proofs.Spread.{spread}
use Rattle.place_libraries.specs.Rows.{libraries_among}
use Rattle.place_libraries.proofs.libraries.libraries_in.Given as goal

-- the remaining rows give the rest
abbrev pub invariant-loop-path : goal.invariant-loop-path
invariant-loop-path l =
    (spread l.folders.keys l.path-iterator l.found.items ≡ spread l.folders.keys l.table (map (libraries_among []) l.folders.keys))
    × (length l.found.items ≡ length l.folders.keys)
