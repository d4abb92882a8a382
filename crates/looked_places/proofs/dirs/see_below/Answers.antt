use Rattle.std.proofs.Common.{flat_map, refl}
use Rattle.looked_places.specs.Plain.{plain_listed, plain_looked}
use Rattle.looked_tree.proofs.Loads.{items_on}
use Rattle.looked_places.proofs.dirs.see_below.Goals as goal

pub loop-place-preserved : goal.loop-place-preserved
loop-place-preserved g c =
    items_on plain_looked plain_listed (λ t. flat_map (plain_looked t) c.args.places.now) (λ t. flat_map (plain_listed t) c.args.places.now)
    (g.F.Folder.state c.args.folder.now) (g.F.Folder.state c.loop-place.folder)
    c.args.looked.now c.loop-place.looked c.args.places.now c.loop-place.place-index c.place-item.result c.place-item.result
    (g.F.Folder.state c.see_place.new.folder) c.see_place.new.looked c.loop-place-test.true c.place-item.is refl c.loop-place.invariant c.in_ok-see_place.ensures.loads
