use Rattle.std.proofs.Common.{drop}
use Rattle.root_tree.specs.SoFar.{IsListing, so_far}
use Rattle.root_tree.proofs.looking.list.Given as goal

abbrev pub invariant-loop-name : goal.invariant-loop-name
invariant-loop-name g l =
    IsListing l.fn.dir l.name-items (drop l.name-index l.name-items) (so_far l.fn.tree l.fn.todo.items) (so_far l.tree l.todo.items) (g.F.Folder.state l.fn.folder) (g.F.Folder.state l.folder)
