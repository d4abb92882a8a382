use Rattle.std.proofs.Common.{◌≡◌, ◌≤◌, ◌-◌, length, take}
use Rattle.std.specs.List.{suffix_len}
use Rattle.lib_types.specs.Sets.{is_in}
use Rattle.lib_types.proofs.trim.end_len.Given as goal

abbrev pub invariant-loop-n : goal.invariant-loop-n
invariant-loop-n l = record {
  within : l.n ≤ length l.bytes;
  rest : l.n - suffix_len (is_in l.set) (take l.n l.bytes) ≡ length l.bytes - suffix_len (is_in l.set) l.bytes;
}

abbrev pub decreases-loop-n : goal.decreases-loop-n
decreases-loop-n l = l.n
