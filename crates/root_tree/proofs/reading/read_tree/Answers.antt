use Rattle.std.proofs.Common.{rules, ◌≡◌, ◌++◌, ◌∷◌, []}
use Rattle.root_tree.proofs.Listing.{reading_ends, reading_on}
use Rattle.root_tree.proofs.Readings.{read_ok}
use Rattle.root_tree.specs.SoFar.{so_far}
use Rattle.root_tree.proofs.reading.read_tree.Goals as goal

pub loop-dir-preserved : goal.loop-dir-preserved
loop-dir-preserved g c =
    let taken : c.loop-dir.todo.items ≡ c.take_last.new.todo.items ++ c.in-Some.dir ∷ [] = search rules in
    reading_on c.loop-dir.tree c.loop-dir.todo.items c.take_last.new.todo.items c.in-Some.dir (g.F.Folder.state c.args.folder.now) (g.F.Folder.state c.loop-dir.folder)
    (g.met.F.Folder.whole c.args.folder.now) c.list.ensures.is_tree c.loop-dir.invariant taken (so_far c.list.new.tree c.list.new.todo.items) (g.F.Folder.state c.list.new.folder)
    c.in_ok-list.ensures.dir c.in_ok-list.ensures.listed c.in_ok-list.ensures.grows c.in_ok-list.ensures.lists
    (read_ok c.in_ok-list.field-0 (g.F.Folder.state c.loop-dir.folder) (g.F.Folder.state c.list.new.folder) c.in_ok-list.ensures.reads)

pub returns : goal.returns
returns g c =
    let none : c.loop-dir.todo.items ≡ [] = search rules in
    reading_ends c.loop-dir.tree (g.F.Folder.state c.args.folder.now) (g.F.Folder.state c.loop-dir.folder) (g.met.F.Folder.whole c.args.folder.now) c.know.ensures
    c.loop-dir.todo.items none c.loop-dir.invariant
