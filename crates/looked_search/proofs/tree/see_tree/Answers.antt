use Rattle.std.proofs.Common.{rules, ◌≡◌, Err, subst, sym}
use Rattle.looked_conf.specs.Conf.{SeesConf}
use Rattle.looked_search.proofs.Opened.{conf_ended, conf_then, of_seeing}
use Rattle.looked_search.specs.Faults.{of_look}
use Rattle.looked_search.specs.declared.fault.SearchFault.TheVariants as faults
use Rattle.looked_search.proofs.TreeSeen.{tree_seen}
use Rattle.looked_search.proofs.tree.see_tree.Goals as goal

pub returns-clause-sees : goal.returns-clause-sees
returns-clause-sees g c =
    tree_seen c.args.scope.now c.in_ok-conf.conf c.in_ok-dirs.dirs.places (g.F.Folder.state c.args.folder.now) (g.F.Folder.state c.see_source.new.folder) (g.F.Folder.state c.see_dirs.new.folder)
    (g.F.Folder.state c.see_libraries.new.folder) (g.S.Store.state c.args.store.now) (g.S.Store.state c.see_source.new.store) c.args.looked.now c.see_source.new.looked c.see_dirs.new.looked
    c.see_libraries.new.looked (rw c.in_ok-conf.was at c.see_source.ensures) c.in_ok-dirs.ensures.loads c.in_ok-dirs.ensures.dirs c.in_ok-see_libraries.ensures.loads

pub returns-in_err-conf-clause-opens : goal.returns-in_err-conf-clause-opens
returns-in_err-conf-clause-opens g c =
    let same : c.from_residual.result ≡ Err (of_look c.in_err-conf.field-0.0) = search rules in
    let sees = rw c.in_err-conf.was at c.see_source.ensures in
    rw same (conf_ended c.args.scope.now (g.F.Folder.state c.args.folder.now) c.args.looked.now (g.S.Store.state c.args.store.now) (g.S.Store.state c.see_source.new.store) c.in_err-conf.field-0.0 sees.reads sees.any)

pub returns-in_err-conf-clause-others : goal.returns-in_err-conf-clause-others
returns-in_err-conf-clause-others g c =
    let same : c.from_residual.result ≡ Err (of_look c.in_err-conf.field-0.0) = search rules in
    rw same (of_seeing c.in_err-conf.field-0.0)

pub returns-in_err-dirs-clause-opens : goal.returns-in_err-dirs-clause-opens
returns-in_err-dirs-clause-opens g c =
    let sees = rw c.in_ok-conf.was at c.see_source.ensures in
    let same : c.from_residual-in_err-dirs.result ≡ Err (faults.Tree c.in_err-dirs.field-0.0) = search rules in
    rw same (conf_then c.args.scope.now (g.F.Folder.state c.args.folder.now) c.args.looked.now (g.S.Store.state c.args.store.now) (g.S.Store.state c.see_source.new.store) sees.reads sees.any)

pub returns-in_err-see_libraries-clause-opens : goal.returns-in_err-see_libraries-clause-opens
returns-in_err-see_libraries-clause-opens g c =
    let sees = rw c.in_ok-conf.was at c.see_source.ensures in
    let same : c.from_residual-in_err-see_libraries.result ≡ Err (faults.Tree c.in_err-see_libraries.field-0.0) = search rules in
    rw same (conf_then c.args.scope.now (g.F.Folder.state c.args.folder.now) c.args.looked.now (g.S.Store.state c.args.store.now) (g.S.Store.state c.see_source.new.store) sees.reads sees.any)

pub returns-clause-opens : goal.returns-clause-opens
returns-clause-opens g c =
    let sees = rw c.in_ok-conf.was at c.see_source.ensures in
    record { known = sees.reads; any = sees.any }
