use Rattle.std.proofs.Common.{◌≡◌, ◌+◌, ◌-◌, arith}
use Rattle.elf_dynamic.specs.Windows.{ready}
use Rattle.elf_dynamic.proofs.Windows.{ready_on}
use Rattle.elf_dynamic.proofs.window.Window.hold.Goals as goal

pub returns-in_ok-fill-clause-holds : goal.returns-in_ok-fill-clause-holds
returns-in_ok-fill-clause-holds g c =
    let w = c.fill.new.self in
    let filled = c.in_ok-fill.ensures.ready in
    let on : ready w (c.args.at + c.args.least) ≡ ready w c.args.at - c.args.least = ready_on w c.args.at c.args.least (omega arith) in
    record {
      enough = omega arith;
      taken = omega arith;
      left = record { taken = omega arith; left = omega arith };
    }

pub returns-else-ready-least-clause-holds : goal.returns-else-ready-least-clause-holds
returns-else-ready-least-clause-holds g c =
    let w = c.args.self.now in
    let on : ready w (c.args.at + c.args.least) ≡ ready w c.args.at - c.args.least = ready_on w c.args.at c.args.least (omega arith) in
    record {
      enough = omega arith;
      taken = omega arith;
      left = record { taken = omega arith; left = omega arith };
    }
