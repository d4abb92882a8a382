use Rattle.std.proofs.Common.{flat_map}
use Rattle.looked_places.specs.Listed.{named_looked}
use Rattle.looked_tree.proofs.Loads.{paths_on}
use Rattle.looked_places.proofs.libraries.see_each.Goals as goal

pub loop-name-preserved : goal.loop-name-preserved
loop-name-preserved g c =
    paths_on (λ t name. named_looked t c.args.dir.now name) (λ t. flat_map (named_looked t c.args.dir.now) c.args.names.now)
    (g.F.Folder.state c.args.folder.now) (g.F.Folder.state c.loop-name.folder)
    c.args.looked.now c.loop-name.looked c.args.names.now c.loop-name.name-index c.name-item.result c.as_bytes.result.now
    (g.F.Folder.state c.see_named.new.folder) c.see_named.new.looked c.loop-name-test.true c.name-item.is c.as_bytes.ensures c.loop-name.invariant c.in_ok-see_named.ensures.loads
