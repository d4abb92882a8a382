use Rattle.std.proofs.Common.{◌+◌, ◌-◌, length}
use Rattle.image_tree.specs.declared.tree.TheConstants.{NODES_MAX}
use Rattle.root_tree.specs.SoFar.{IsReading, so_far}
use Rattle.root_tree.proofs.reading.read_tree.Given as goal

abbrev pub invariant-loop-dir : goal.invariant-loop-dir
invariant-loop-dir g l = IsReading (so_far l.tree l.todo.items) (g.F.Folder.state l.fn.folder) (g.F.Folder.state l.folder)

-- each directory that is added uses up the room of a node
abbrev pub decreases-loop-dir : goal.decreases-loop-dir
decreases-loop-dir g l = NODES_MAX - length l.tree + length l.todo.items
