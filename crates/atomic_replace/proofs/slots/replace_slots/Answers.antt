use Rattle.std.proofs.Common.{◌≡◌, ◌+◌, Err, subst, drop, rules}
use Rattle.atomic_replace.proofs.OneByOne.{goes_on, next_is, stops}
use Rattle.atomic_replace.specs.OneByOne.{HasReplaced, writes_in}
use Rattle.atomic_replace.proofs.slots.replace_slots.Goals as goal

pub returns-in_err-replace-clause-failed : goal.returns-in_err-replace-clause-failed
returns-in_err-replace-clause-failed g c =
    let all = writes_in c.args.writes.now in
    let so_far = subst (λ left. HasReplaced c.args.tag all left (g.D.Disk.state c.args.disk.now) (g.D.Disk.state c.loop-write.disk))
    (next_is c.args.writes.now c.loop-write.write-index _ c.loop-write-test.true) c.loop-write.invariant in
    let same : c.from_residual.result ≡ Err c.in_err-replace.field-0.0 = search rules in
    rw same (stops c.args.tag all _ (writes_in (drop (c.loop-write.write-index + 1) c.args.writes.now)) c.in_err-replace.field-0.0 (g.D.Disk.state c.args.disk.now)
    (g.D.Disk.state c.loop-write.disk) (g.D.Disk.state c.replace.new.disk) so_far c.in_err-replace.ensures.failed)

pub loop-write-preserved : goal.loop-write-preserved
loop-write-preserved g c =
    let all = writes_in c.args.writes.now in
    let so_far = subst (λ left. HasReplaced c.args.tag all left (g.D.Disk.state c.args.disk.now) (g.D.Disk.state c.loop-write.disk))
    (next_is c.args.writes.now c.loop-write.write-index _ c.loop-write-test.true) c.loop-write.invariant in
    goes_on c.args.tag all _ (writes_in (drop (c.loop-write.write-index + 1) c.args.writes.now)) (g.D.Disk.state c.args.disk.now)
    (g.D.Disk.state c.loop-write.disk) (g.D.Disk.state c.replace.new.disk) so_far c.in_ok-replace.ensures.done c.in_ok-replace.ensures.made
