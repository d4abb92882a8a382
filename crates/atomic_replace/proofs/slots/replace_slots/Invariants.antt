use Rattle.std.proofs.Common.{drop}
use Rattle.atomic_replace.specs.OneByOne.{HasReplaced, writes_in}
use Rattle.atomic_replace.proofs.slots.replace_slots.Given as goal

-- the slots of the items so far are replaced
abbrev pub invariant-loop-write : goal.invariant-loop-write
invariant-loop-write g l =
    HasReplaced l.tag (writes_in l.fn.writes) (writes_in (drop l.write-index l.fn.writes)) (g.D.Disk.state l.fn.disk) (g.D.Disk.state l.disk)
