use Rattle.std.proofs.Common.{refl}
use Rattle.looked_search.proofs.Added.{items_on}
use Rattle.looked_search.specs.Sonames.{path_in, paths_in}
use Rattle.looked_search.proofs.sonames.add_in_places.Goals as goal

pub loop-place-preserved : goal.loop-place-preserved
loop-place-preserved g c =
    items_on (path_in c.args.soname.now) (paths_in c.args.places.now c.args.soname.now) (g.F.Folder.state c.args.folder.now) (g.F.Folder.state c.loop-place.folder)
    (g.F.Folder.state c.add_in_place.new.folder) c.args.looked.now c.loop-place.looked c.add_in_place.new.looked c.args.tree.now c.loop-place.tree c.add_in_place.new.tree
    c.args.places.now c.loop-place.place-index c.place-item.result c.place-item.result c.loop-place-test.true c.place-item.is refl c.loop-place.invariant
    c.in_ok-add_in_place.ensures.adds
