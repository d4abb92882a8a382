use Rattle.std.proofs.Common.{◌≡◌, length}
use Rattle.atomic_replace.specs.Order.{calls_from, next_of}
use Rattle.atomic_replace.proofs.Stages.{HasReached}
use Rattle.atomic_replace.proofs.updater.Updater.commit.Given as goal

abbrev pub invariant-loop : goal.invariant-loop
invariant-loop g l =
    record {
      updater : l.self ≡ record l.fn.self { left = l.self.left };
      left : l.self.left ≡ calls_from (next_of l.self.left);
      reached : HasReached l.fn.self.tag l.fn.self.write (next_of l.self.left) (g.D.Disk.state l.fn.disk) (g.D.Disk.state l.disk);
    }

abbrev pub decreases-loop : goal.decreases-loop
decreases-loop g l = length l.self.left
