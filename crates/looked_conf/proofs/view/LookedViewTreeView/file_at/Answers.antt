use Rattle.std.proofs.Common.{◌≡◌, [], ap, ◌∙◌}
use Rattle.conf_views.specs.Files.{file_at}
use Rattle.looked_conf.proofs.Known.{file_now, if_ok_then, ok_all, since_on}
use Rattle.path_walk.specs.declared.walk.Mode.TheVariants.{Plain}
use Rattle.seen_tree.specs.Part.{looked_by}
use Rattle.looked_conf.specs.View.{IsViewOf, tree_of}
use Rattle.looked_conf.proofs.view.LookedViewTreeView.file_at.Goals as goal

pub returns-clause-file : goal.returns-clause-file
returns-clause-file g c =
    let a = g.F.Folder.state c.args.self.now.folder.now in
    let b = g.F.Folder.state c.see_text.new.folder in
    let x = c.args.self.now.looked.now in
    let y = c.see_text.new.self in
    let text = c.args.text.now in
    let part : c.new.result.tree.now ≡ y.seen.part = c.new.ensures ∙ c.tree.ensures in
    if_ok_then c.file_at.result (λ file. Unit {0} → file ≡ file_at c.new.result.tree.now text) (λ file. IsViewOf a x → file ≡ file_at (tree_of a.contents) text)
    (λ file h is. h tt ∙ ap (λ t. file_at t text) part ∙ file_now text a b x y c.in_default.ensures.loads is) c.file_at.ensures.file

pub returns-clause-since : goal.returns-clause-since
returns-clause-since g c =
    let a = g.F.Folder.state c.args.self.now.folder.now in
    let b = g.F.Folder.state c.see_text.new.folder in
    let x = c.args.self.now.looked.now in
    let y = c.see_text.new.self in
    let text = c.args.text.now in
    ok_all c.file_at.result _ (λ start h. (
      h.0,
      (
        h.1.0,
        since_on (λ t. looked_by t text Plain) (λ t. []) (g.F.Folder.state start.folder.now) a b start.looked.now x y h.1.1 c.in_default.ensures.loads,
      ),
    ))
