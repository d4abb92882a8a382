use Rattle.std.proofs.Common.{flat_map, refl, subst}
use Rattle.looked_places.specs.Listed.{library_looked}
use Rattle.seen_tree.specs.Part.{dirs_at}
use Rattle.looked_tree.proofs.Loads.{items_on}
use Rattle.looked_tree.specs.Looked.{Loads}
use Rattle.looked_places.proofs.libraries.see_dirs.Goals as goal

pub loop-place-preserved : goal.loop-place-preserved
loop-place-preserved g c =
    let a = g.F.Folder.state c.args.folder.now in
    let b = g.F.Folder.state c.loop-place.folder in
    let after = g.F.Folder.state c.see_dir.new.folder in
    items_on (λ t place. library_looked t place.real) (λ t place. dirs_at t place.real) (λ t. flat_map (λ place. library_looked t place.real) c.args.places.now)
    (λ t. flat_map (λ place. dirs_at t place.real) c.args.places.now) a b
    c.args.looked.now c.loop-place.looked c.args.places.now c.loop-place.place-index c.place-item.result c.place-item.result
    after c.see_dir.new.looked c.loop-place-test.true c.place-item.is refl c.loop-place.invariant
    (subst (λ dir. Loads (λ t. library_looked t dir) (λ t. dirs_at t dir) b after c.loop-place.looked c.see_dir.new.looked) c.as_bytes.ensures c.in_ok-see_dir.ensures.loads)
