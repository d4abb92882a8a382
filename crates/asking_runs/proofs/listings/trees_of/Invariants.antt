use Rattle.std.proofs.Common.{◌≡◌, ◌++◌, drop}
use Rattle.std.specs.List.{flat_map}
use Rattle.asking_runs.specs.Listings.{tree_part}
use Rattle.asking_runs.proofs.listings.trees_of.Given as goal

-- the text so far and the parts of the remaining programs are the whole text
abbrev pub invariant-loop-program : goal.invariant-loop-program
invariant-loop-program l = l.text.items ++ flat_map (tree_part l.several) (drop l.program-index l.programs) ≡ flat_map (tree_part l.several) l.programs
