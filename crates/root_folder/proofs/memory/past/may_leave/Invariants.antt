use Rattle.std.proofs.Common.{◌≡◌, ◌≤◌, length, reverse, take}
use Rattle.std.specs.Option.{option_copied}
use Rattle.root_folder.specs.Past.{left_in}
use Rattle.root_folder.proofs.memory.past.may_leave.Given as goal

abbrev pub invariant-loop-left : goal.invariant-loop-left
invariant-loop-left l =
    (l.left ≤ length l.changes)
    × (left_in l.path (option_copied l.there) (reverse (take l.left l.changes)) (option_copied l.found)
    ≡ left_in l.fn.path (option_copied l.fn.now) (reverse l.fn.changes) (option_copied l.fn.found))

abbrev pub decreases-loop-left : goal.decreases-loop-left
decreases-loop-left l = l.left
