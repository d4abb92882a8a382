use Rattle.std.proofs.Common.{[], refl, subst}
use Rattle.looked_places.specs.Listed.{ways_looked}
use Rattle.path_walk.specs.declared.walk.Mode.TheVariants.{Full}
use Rattle.seen_tree.specs.Part.{looked_by}
use Rattle.looked_tree.proofs.Loads.{paths_on}
use Rattle.looked_tree.specs.Looked.{Loads}
use Rattle.looked_places.proofs.libraries.see_ways.Goals as goal

pub loop-place-preserved : goal.loop-place-preserved
loop-place-preserved g c =
    let a = g.F.Folder.state c.args.folder.now in
    let b = g.F.Folder.state c.loop-place.folder in
    let after = g.F.Folder.state c.see_text.new.folder in
    paths_on (λ t place. looked_by t place.real Full) (λ t. ways_looked t c.args.places.now) a b
    c.args.looked.now c.loop-place.looked c.args.places.now c.loop-place.place-index c.place-item.result c.place-item.result
    after c.see_text.new.self c.loop-place-test.true c.place-item.is refl c.loop-place.invariant
    (subst (λ p. Loads (λ t. looked_by t p Full) (λ t. []) b after c.loop-place.looked c.see_text.new.self) c.as_bytes.ensures c.in_ok-see_text.ensures.loads)
