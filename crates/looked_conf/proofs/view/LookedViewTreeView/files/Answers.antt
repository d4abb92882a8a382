use Rattle.std.proofs.Common.{◌≡◌, ap, ◌∙◌}
use Rattle.conf_views.specs.Files.{files}
use Rattle.looked_conf.proofs.Known.{files_now, if_ok_then, ok_all, since_on}
use Rattle.conf_views.specs.Patterns.{results_listed, results_looked}
use Rattle.looked_conf.specs.View.{IsViewOf, tree_of}
use Rattle.looked_conf.proofs.view.LookedViewTreeView.files.Goals as goal

pub returns-clause-files : goal.returns-clause-files
returns-clause-files g c =
    let a = g.F.Folder.state c.args.self.now.folder.now in
    let b = g.F.Folder.state c.see_results.new.folder in
    let x = c.args.self.now.looked.now in
    let y = c.see_results.new.looked in
    let file = c.args.file.now in
    let pattern = c.args.pattern.now in
    let part : c.new.result.tree.now ≡ y.seen.part = c.new.ensures ∙ c.tree.ensures in
    if_ok_then c.files.result (λ found. Unit {0} → found.items ≡ files c.new.result.tree.now file pattern) (λ found. IsViewOf a x → found.items ≡ files (tree_of a.contents) file pattern)
    (λ found h is. h tt ∙ ap (λ t. files t file pattern) part ∙ files_now file pattern a b x y c.in_default.ensures.loads is) c.files.ensures.files

pub returns-clause-since : goal.returns-clause-since
returns-clause-since g c =
    let a = g.F.Folder.state c.args.self.now.folder.now in
    let b = g.F.Folder.state c.see_results.new.folder in
    let x = c.args.self.now.looked.now in
    let y = c.see_results.new.looked in
    let file = c.args.file.now in
    let pattern = c.args.pattern.now in
    ok_all c.files.result _ (λ start h. (
      h.0,
      (
        h.1.0,
        since_on (λ t. results_looked t file pattern) (λ t. results_listed t file pattern) (g.F.Folder.state start.folder.now) a b start.looked.now x y h.1.1 c.in_default.ensures.loads,
      ),
    ))
