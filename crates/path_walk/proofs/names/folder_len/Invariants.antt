use Rattle.std.proofs.Common.{◌≡◌, ◌≤◌, length, take}
use Rattle.path_walk.specs.Names.{before_last}
use Rattle.path_walk.proofs.names.folder_len.Given as goal

-- if the path has a slash, its last slash is in the first n bytes
abbrev pub invariant-loop-n : goal.invariant-loop-n
invariant-loop-n l = (l.n ≤ length l.place) × (before_last (take l.n l.place) ≡ before_last l.place)

abbrev pub decreases-loop-n : goal.decreases-loop-n
decreases-loop-n l = l.n
