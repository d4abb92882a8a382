use Rattle.std.proofs.Common.{◌≡◌, ◌++◌}
use Rattle.std.specs.Map.{keys_of}
use Rattle.image_tree.proofs.tree.paths.Paths.of.Given as goal

-- the copied paths and the paths of the remaining rows are all paths
abbrev pub invariant-loop-entry : goal.invariant-loop-entry
invariant-loop-entry l = l.paths ++ keys_of l.entry-iterator ≡ keys_of l.fn.rows
