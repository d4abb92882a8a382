use Rattle.atomic_replace.specs.Replace.{WritesSlot}
use Rattle.atomic_replace.specs.Step.{Replacement}
use Rattle.std.proofs.Common.{OnOk, subst}
use Rattle.atomic_replace.proofs.CallsOneByOne.{one_write}
use Rattle.atomic_replace.proofs.slots.replace.Goals as goal
use Rattle.lib_types.proofs.Results.{on_ok_by}

pub returns-clause-done : goal.returns-clause-done
returns-clause-done g c =
    let done = subst (λ (u : Replacement). OnOk c.commit.result (WritesSlot u.tag u.write (g.D.Disk.state c.args.disk.now) (g.D.Disk.state c.commit.new.disk)))
    c.new-updater.ensures c.commit.ensures.done in
    on_ok_by _ _ c.commit.result
    (λ written. one_write c.args.tag (c.args.slot, c.args.bytes.now) (g.D.Disk.state c.args.disk.now) (g.D.Disk.state c.commit.new.disk) (g.met.D.Disk.moments c.commit.new.disk) written) done
