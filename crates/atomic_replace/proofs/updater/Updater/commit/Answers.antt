use Rattle.std.proofs.Common.{rules, ◌≡◌, Bool, false, List, [], Ok, Err, ap, subst, drop}
use Rattle.atomic_replace.proofs.Stages.{HasReached, ends, step_fails, step_on, still}
use Rattle.atomic_replace.specs.Order.{next_of}
use Rattle.atomic_replace.specs.Step.{Replacement}
use Rattle.tree_face.specs.declared.disk.Call.{Call}
use Rattle.atomic_replace.proofs.updater.Updater.commit.Goals as goal

pub returns-in_err-step-clause-failed : goal.returns-in_err-step-clause-failed
returns-in_err-step-clause-failed g c =
    let fault = c.in_err-step.field-0.0 in
    let same : c.from_residual.result ≡ Err fault = search rules in
    rw same (step_fails c.args.self.now c.loop.self (g.D.Disk.state c.args.disk.now) (g.D.Disk.state c.loop.disk) (g.D.Disk.state c.step.new.disk) (g.met.D.Disk.moments c.args.disk.now) c.loop.invariant.updater c.loop.invariant.reached
    fault c.in_err-step.ensures.fault.0 c.in_err-step.ensures.fault.1 c.in_err-step.ensures.makes)

pub loop-preserved : goal.loop-preserved
loop-preserved g c =
    let (left, reached) = step_on c.args.self.now c.loop.self (g.D.Disk.state c.args.disk.now) (g.D.Disk.state c.loop.disk) (g.D.Disk.state c.step.new.disk) (g.met.D.Disk.moments c.args.disk.now) c.loop.invariant.updater c.loop.invariant.reached
    c.step.new.self.left c.in_ok-step.field-0 c.loop.invariant.left (λ e. search (rules, e)) (ap (λ (w : Replacement). w.left) c.in_ok-step.ensures.left) c.in_ok-step.ensures.makes in
    record { updater = still c.args.self.now c.loop.self c.step.new.self (drop 1 c.loop.self.left) c.loop.invariant.updater c.in_ok-step.ensures.left; left = left; reached = reached }

pub returns-clause-done : goal.returns-clause-done
returns-clause-done g c =
    let is : c.in_ok-step.field-0 ≡ false = search rules in
    let none : c.loop.self.left ≡ [] = c.in_ok-step.ensures.ends.0 (ap (λ (b : Bool). Ok b) is) in
    let reached = subst (λ (l : List Call). HasReached c.args.self.now.tag c.args.self.now.write (next_of l) (g.D.Disk.state c.args.disk.now) (g.D.Disk.state c.loop.disk)) none c.loop.invariant.reached in
    let same = c.in_ok-step.ensures.none none in
    rw same (ends c.args.self.now.tag c.args.self.now.write (g.D.Disk.state c.args.disk.now) (g.met.D.Disk.moments c.args.disk.now) (g.D.Disk.state c.loop.disk) reached)
