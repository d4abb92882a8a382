use Rattle.std.proofs.Common.{◌≡◌, ◌≤◌, None, length, reverse, take}
use Rattle.string_pool.specs.Hosts.{left_below, least_above}
use Rattle.string_pool.proofs.hosts.take_ending_in.Given as goal

-- what is left gives the same as the whole stack
abbrev pub invariant-loop-count : goal.invariant-loop-count
invariant-loop-count l =
    (l.count ≤ length l.stack.items)
    × (left_below l.text (reverse (take l.count l.stack.items)) ≡ left_below l.text (reverse l.stack.items))
    × (least_above l.text l.first (reverse (take l.count l.stack.items)) ≡ least_above l.text None (reverse l.stack.items))

abbrev pub decreases-loop-count : goal.decreases-loop-count
decreases-loop-count l = l.count
