use Rattle.std.proofs.Common.{◌≡◌, ◌++◌, [], drop, map}
use Rattle.place_libraries.specs.Rows.{libraries_among}
use Rattle.place_libraries.proofs.libraries.none_each.Given as goal

-- the remaining directories give the rest
abbrev pub invariant-loop-folder : goal.invariant-loop-folder
invariant-loop-folder l = l.found.items ++ map (libraries_among []) (drop l._folder-index l.folders) ≡ map (libraries_among []) l.folders
