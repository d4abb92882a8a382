use Rattle.std.proofs.Common.{[], ℕ, List, flat_map, refl, subst}
use Rattle.looked_search.proofs.Added.{items_on}
use Rattle.looked_search.specs.Sonames.{AddsSonames, paths_in}
use Rattle.looked_search.proofs.sonames.add_each.Goals as goal

pub loop-soname-preserved : goal.loop-soname-preserved
loop-soname-preserved g c =
    let a = g.F.Folder.state c.args.folder.now in
    let b = g.F.Folder.state c.loop-soname.folder in
    let after = g.F.Folder.state c.add_in_places.new.folder in
    items_on (paths_in c.args.places.now) (flat_map (paths_in c.args.places.now) c.args.sonames.now) a b after
    c.args.looked.now c.loop-soname.looked c.add_in_places.new.looked c.args.tree.now c.loop-soname.tree c.add_in_places.new.tree
    c.args.sonames.now c.loop-soname.soname-index c.soname-item.result c.soname-item.result c.loop-soname-test.true c.soname-item.is refl c.loop-soname.invariant
    (subst (λ (s : List ℕ). AddsSonames (paths_in c.args.places.now s) [] b after c.loop-soname.looked c.add_in_places.new.looked c.loop-soname.tree c.add_in_places.new.tree) c.as_bytes.ensures
    c.in_ok-add_in_places.ensures.adds)
