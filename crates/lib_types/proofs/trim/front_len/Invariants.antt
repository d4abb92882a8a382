use Rattle.std.proofs.Common.{◌≡◌, ◌≤◌, ◌+◌, ◌-◌, length, drop}
use Rattle.std.specs.List.{prefix_len}
use Rattle.lib_types.specs.Sets.{is_in}
use Rattle.lib_types.proofs.trim.front_len.Given as goal

abbrev pub invariant-loop-n : goal.invariant-loop-n
invariant-loop-n l = record { within : l.n ≤ length l.bytes; rest : l.n + prefix_len (is_in l.set) (drop l.n l.bytes) ≡ prefix_len (is_in l.set) l.bytes }

abbrev pub decreases-loop-n : goal.decreases-loop-n
decreases-loop-n l = length l.bytes - l.n
