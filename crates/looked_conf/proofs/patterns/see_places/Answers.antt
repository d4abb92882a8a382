use Rattle.path_walk.specs.declared.walk.Mode.TheVariants.{Plain}
use Rattle.conf_views.specs.Patterns.{places_looked}
use Rattle.seen_tree.specs.Part.{looked_by}
use Rattle.looked_tree.proofs.Loads.{paths_on}
use Rattle.looked_conf.proofs.patterns.see_places.Goals as goal

pub loop-text-preserved : goal.loop-text-preserved
loop-text-preserved g c =
    paths_on (λ t text. looked_by t text Plain) (λ t. places_looked t c.args.texts.now) (g.F.Folder.state c.args.folder.now) (g.F.Folder.state c.loop-text.folder)
    c.args.looked.now c.loop-text.looked c.args.texts.now c.loop-text.text-index c.text-item.result c.as_bytes.result.now
    (g.F.Folder.state c.see_text.new.folder) c.see_text.new.self c.loop-text-test.true c.text-item.is c.as_bytes.ensures c.loop-text.invariant c.in_ok-see_text.ensures.loads
