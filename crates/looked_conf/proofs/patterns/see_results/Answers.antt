use Rattle.std.proofs.Common.{[], subst}
use Rattle.conf_views.specs.Patterns.{places_looked, results_listed, results_looked}
use Rattle.looked_tree.proofs.Loads.{ok_then}
use Rattle.looked_tree.specs.Looked.{Loads}
use Rattle.looked_conf.proofs.Texts.{results_loaded}
use Rattle.looked_conf.proofs.patterns.see_results.Goals as goal

pub returns-clause-loads : goal.returns-clause-loads
returns-clause-loads g c =
    let file = c.args.file.now in
    let pattern = c.args.pattern.now in
    let a = g.F.Folder.state c.args.folder.now in
    let b = g.F.Folder.state c.see_texts.new.folder in
    let d = g.F.Folder.state c.see_places.new.folder in
    let x = c.args.looked.now in
    let y = c.see_texts.new.looked in
    let z = c.see_places.new.looked in
    let texts = c.in_ok-texts.texts.items in
    ok_then c.see_places.result (Loads (λ t. places_looked t c.deref.result.now) (λ t. []) b d y z) (Loads (λ t. results_looked t file pattern) (λ t. results_listed t file pattern) a d x z)
    (λ next. results_loaded file pattern a b d x y z texts c.in_ok-texts.ensures.loads c.in_ok-texts.ensures.texts
    (subst (λ xs. Loads (λ t. places_looked t xs) (λ t. []) b d y z) c.deref.ensures.value next)) c.see_places.ensures.loads
