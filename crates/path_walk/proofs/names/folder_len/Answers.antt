use Rattle.std.proofs.Common.{◌≡◌, ◌-◌, ◌+◌, ◌≤◌, length, arith}
use Rattle.path_walk.proofs.Folders.{ends_here}
use Rattle.path_walk.proofs.names.folder_len.Goals as goal

pub returns-then-place-n-eq47-clause-ends : goal.returns-then-place-n-eq47-clause-ends
returns-then-place-n-eq47-clause-ends c =
    let place = c.args.place.now in
    let within : c.loop-n.n ≤ length place = c.loop-n.invariant.0 in
    let less : c.loop-n.n ≡ c.loop-n.n - 1 + 1 = omega arith in
    ends_here place c.loop-n.n (c.loop-n.n - 1) less within c.if-place-n-eq47.true c.loop-n.invariant.1
