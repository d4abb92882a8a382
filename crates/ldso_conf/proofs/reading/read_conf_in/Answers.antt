use Rattle.std.proofs.Common.{◌≡◌, ◌∙◌, sym, rules, Err}
use Rattle.tree_face.specs.StoreUse.{Complete}
use Rattle.ldso_conf.specs.Endings.{read_ending_by}
use Rattle.ldso_conf.proofs.Looking.{conf_looked, no_conf_looked}
use Rattle.ldso_conf.proofs.Whole.{a_conf, a_reads}
use Rattle.ldso_conf.proofs.reading.read_conf_in.Goals as goal

pub returns-in_err-visit-clause-reads : goal.returns-in_err-visit-clause-reads
returns-in_err-visit-clause-reads g c =
    let fault = c.in_err-visit.field-0.0 in
    let tree = (g.V.TreeView.state c.args.view.now).tree in
    let same : c.from_residual-in_err-visit.result ≡ Err fault = search rules in
    let was : c.visit.result ≡ Err fault = search rules in
    rw same (λ knows. a_reads c.args.path.now tree c.new-reader.result c.in-Some.file (sym (c.in_ok-file.ensures.file knows) ∙ c.in-Some.is) c.new-reader.ensures
    (g.V.TreeView.state c.file_at.new.self).tree c.file_at.ensures.view.tree
    (read_ending_by fault) (g.S.Store.state c.args.store.now) (g.S.Store.state c.visit.new.store)
    (rw was at (c.visit.ensures.reads (c.in_ok-file.ensures.knows knows))))

pub returns-clause-conf : goal.returns-clause-conf
returns-clause-conf g c = λ knows.
    let tree = (g.V.TreeView.state c.args.view.now).tree in
    a_conf c.args.path.now tree c.new-reader.result c.in-Some.file (sym (c.in_ok-file.ensures.file knows) ∙ c.in-Some.is) c.new-reader.ensures
    (g.S.Store.state c.args.store.now).held c.into_conf-2.result c.visit.new.reader
    (rw c.file_at.ensures.view.tree at (c.in_ok-visit.ensures.visits (c.in_ok-file.ensures.knows knows))) c.into_conf-2.ensures.conf

pub returns-clause-reads : goal.returns-clause-reads
returns-clause-reads g c = λ knows.
    let tree = (g.V.TreeView.state c.args.view.now).tree in
    a_reads c.args.path.now tree c.new-reader.result c.in-Some.file (sym (c.in_ok-file.ensures.file knows) ∙ c.in-Some.is) c.new-reader.ensures
    (g.V.TreeView.state c.file_at.new.self).tree c.file_at.ensures.view.tree
    Complete (g.S.Store.state c.args.store.now) (g.S.Store.state c.visit.new.store) (c.in_ok-visit.ensures.reads (c.in_ok-file.ensures.knows knows))

pub returns-in_default-clause-looks : goal.returns-in_default-clause-looks
returns-in_default-clause-looks g c = λ knows.
    no_conf_looked c.args.path.now (g.V.TreeView.state c.args.view.now).tree (g.S.Store.state c.args.store.now).held
    (g.V.TreeView.state c.args.view.now) (g.V.TreeView.state c.file_at.new.self) (sym (c.in_ok-file.ensures.file knows) ∙ c.in_default.is) (c.in_ok-file.ensures.looks knows)

pub returns-clause-looks : goal.returns-clause-looks
returns-clause-looks g c = λ knows.
    let tree = (g.V.TreeView.state c.args.view.now).tree in
    let here = c.in_ok-file.ensures.knows knows in
    conf_looked c.args.path.now tree c.new-reader.result c.in-Some.file (sym (c.in_ok-file.ensures.file knows) ∙ c.in-Some.is) c.new-reader.ensures
    (g.V.TreeView.state c.file_at.new.self).tree c.file_at.ensures.view.tree (g.S.Store.state c.args.store.now).held c.visit.new.reader
    (g.V.TreeView.state c.args.view.now) (g.V.TreeView.state c.file_at.new.self) (g.V.TreeView.state c.visit.new.view)
    (c.in_ok-file.ensures.looks knows) c.file_at.ensures.view (c.in_ok-visit.ensures.visits here) (c.in_ok-visit.ensures.looks here)
