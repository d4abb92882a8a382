use Rattle.std.proofs.Common.{◌≡◌, [], flat_map, subst, ◌∙◌}
use Rattle.image_tree.specs.Paths.{join}
use Rattle.path_walk.specs.declared.walk.Mode.TheVariants.{Plain}
use Rattle.seen_tree.specs.Part.{looked_by}
use Rattle.looked_tree.proofs.Loads.{paths_on}
use Rattle.looked_tree.specs.Looked.{Loads}
use Rattle.looked_places.proofs.dirs.see_names.Goals as goal

pub loop-name-preserved : goal.loop-name-preserved
loop-name-preserved g c =
    let dir = c.args.dir.now in
    let name = c.as_bytes.result.now in
    let a = g.F.Folder.state c.args.folder.now in
    let b = g.F.Folder.state c.loop-name.folder in
    let after = g.F.Folder.state c.see_text.new.folder in
    let text : c.as_bytes-in-loop-name.result.now ≡ join dir name = c.as_bytes-in-loop-name.ensures ∙ c.in_ok-text.ensures in
    paths_on (λ t name. looked_by t (join dir name) Plain) (λ t. flat_map (λ name. looked_by t (join dir name) Plain) c.args.names.now) a b
    c.args.looked.now c.loop-name.looked c.args.names.now c.loop-name.name-index c.name-item.result name
    after c.see_text.new.self c.loop-name-test.true c.name-item.is c.as_bytes.ensures c.loop-name.invariant
    (subst (λ p. Loads (λ t. looked_by t p Plain) (λ t. []) b after c.loop-name.looked c.see_text.new.self) text c.in_ok-see_text.ensures.loads)
