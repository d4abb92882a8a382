use Rattle.std.proofs.Common.{◌≡◌, ◌-◌, length, filter, not}
use Rattle.image_tree.specs.Paths.{is_below}
use Rattle.layer_union.proofs.clear.+clear_below.Given as goal

-- a child's path is longer than its directory's
abbrev pub decreases-clear_below : goal.decreases-clear_below
decreases-clear_below l = 4096 - length l.path.now

-- clearing what is left gives the result
abbrev pub invariant-loop-child : goal.invariant-loop-child
invariant-loop-child l = filter (λ e. not (is_below l.path e.0)) l.tree ≡ filter (λ e. not (is_below l.path e.0)) l.fn.tree

abbrev pub decreases-loop-child : goal.decreases-loop-child
decreases-loop-child l = length l.tree
