use Rattle.std.proofs.Common.{rules, arith, ◌++◌, ◌-◌}
use Rattle.file_trails.proofs.Steps.{no_more, trail_begins, trail_ends, trail_on}
use Rattle.file_trails.specs.Trail.{trail}
use Rattle.file_trails.proofs.trail.add_trail.Goals as goal

pub loop-walks-init : goal.loop-walks-init
loop-walks-init c = trail_begins c.args.tree.now c.args.path.now c.args.met.now c.in_ok-names.names c.in_ok-place.place (search rules) (search rules)

pub returns-in_default : goal.returns-in_default
returns-in_default c =
    let whole = c.args.met.now ++ trail c.args.tree.now c.args.path.now in
    trail_ends c.args.tree.now c.loop-walks.met c.pass.new.met whole c.loop-walks.walks c.loop-walks.names c.loop-walks.place c.as_slice.result.now c.in_ok-onward.field-0 (c.loop-walks.walks - 1)
    (search rules) (omega (arith, c.loop-walks-test.true)) c.loop-walks.invariant c.in_ok-onward.ensures c.in_default.is

pub loop-walks-preserved : goal.loop-walks-preserved
loop-walks-preserved c =
    let whole = c.args.met.now ++ trail c.args.tree.now c.args.path.now in
    trail_on c.args.tree.now c.loop-walks.met c.pass.new.met whole c.loop-walks.walks c.loop-walks.names c.loop-walks.place c.as_slice.result.now c.in_ok-onward.field-0 (c.loop-walks.walks - 1)
    (search rules) (omega (arith, c.loop-walks-test.true)) c.loop-walks.invariant c.in_ok-onward.ensures c.in-Some.onward c.in-Some.is

pub returns : goal.returns
returns c =
    let whole = c.args.met.now ++ trail c.args.tree.now c.args.path.now in
    no_more c.args.tree.now c.loop-walks.met c.loop-walks.met whole c.loop-walks.walks c.loop-walks.names c.loop-walks.place (omega (arith, c.loop-walks-test.false)) c.loop-walks.invariant
