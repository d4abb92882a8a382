use Rattle.std.proofs.Common.{◌≡◌, ◌<◌, ◌+◌, ◌-◌, length, get_or, arith, rules}
use Rattle.rpath_search.proofs.Listed.{begins, goes_on}
use Rattle.rpath_search.proofs.listing.loaders_of.Goals as goal

pub loop-left-init : goal.loop-left-init
loop-left-init c =
    let owners = c.args.owners.now in
    let owner = c.index-owners-left.result in
    let is : get_or owners (length owners - 1) owner ≡ owner = search rules in
    let some : 0 < length owners = c.requires in
    let within : length owners - 1 < length owners = omega (arith, some) in
    let end : length owners - 1 + 1 ≡ length owners = omega (arith, some) in
    record { within = within; last = rw c.in_ok-loaders.ensures (begins c.args.env.now owners (length owners - 1) owner within end is) }

pub loop-left-preserved : goal.loop-left-preserved
loop-left-preserved c =
    let owners = c.args.owners.now in
    let i = c.loop-left.left in
    let owner = c.index-owners-left-in-loop-left.result in
    let is : get_or owners (i - 1) owner ≡ owner = search rules in
    let some : 0 < i = search rules in
    let next : i ≡ i - 1 + 1 = omega (arith, some) in
    let fewer : i - 1 < length owners = omega (arith, c.loop-left.invariant.within) in
    record {
      within = fewer;
      last = rw (c.in_ok-add.ensures, c.len-last.ensures) (goes_on c.args.env.now owners i (i - 1) owner c.loop-left.loaders next c.loop-left.invariant.within is c.loop-left.invariant.last);
    }
