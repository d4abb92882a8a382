use Rattle.std.proofs.Common.{◌≡◌, ◌≤◌, ◌-◌, not, length, take}
use Rattle.std.specs.List.{suffix_len}
use Rattle.lib_types.specs.Sets.{is_in}
use Rattle.lib_types.proofs.trim.last_len.Given as goal

abbrev pub invariant-loop-n : goal.invariant-loop-n
invariant-loop-n l = record {
  within : l.n ≤ length l.bytes;
  rest : l.n - suffix_len (λ b. not (is_in l.set b)) (take l.n l.bytes) ≡ length l.bytes - suffix_len (λ b. not (is_in l.set b)) l.bytes;
}

abbrev pub decreases-loop-n : goal.decreases-loop-n
decreases-loop-n l = l.n
