use Rattle.std.proofs.Common.{◌≡◌, map, ◌∙◌}
use Rattle.image_tree.specs.Paths.{join}
use Rattle.looked_tree.proofs.Loads.{names_on}
use Rattle.looked_tree.proofs.looked.LookedPart.see_names.Goals as goal

pub loop-name-preserved : goal.loop-name-preserved
loop-name-preserved g c =
    let dir = c.args.dir.now in
    let name = c.as_bytes.result.now in
    let path : c.as_bytes-in-loop-name.result.now ≡ join dir name = c.as_bytes-in-loop-name.ensures ∙ c.in_ok-path.ensures in
    names_on dir c.args.names.now c.loop-name.name-index c.name-item.result name c.as_bytes-in-loop-name.result.now (λ t. map (join dir) c.args.names.now)
    (g.F.Folder.state c.args.folder.now) (g.F.Folder.state c.loop-name.folder) (g.F.Folder.state c.see.new.folder) c.args.self.now c.loop-name.self c.see.new.self
    c.loop-name-test.true c.name-item.is c.as_bytes.ensures path c.loop-name.invariant c.in_ok-see.ensures.loads
