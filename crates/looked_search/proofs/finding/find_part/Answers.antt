use Rattle.std.proofs.Common.{rules, ◌≡◌, ◌⊎◌, Err, sym, subst}
use Rattle.library_search.specs.Faults.{find_ending}
use Rattle.tree_face.specs.StoreUse.{Complete}
use Rattle.image_tree.specs.Tree.{Nodes}
use Rattle.looked_tree.specs.Looked.{Looked}
use Rattle.looked_search.proofs.Finds.{part_finds}
use Rattle.library_search.specs.declared.fault.FindFault.TheVariants as finding
use Rattle.looked_search.proofs.Opened.{conf_failed, last_opens, none_fits, part_failed, seeing_fits, targets_opened}
use Rattle.looked_search.specs.Opened.{HasNoRoom, OpensConf, OpensTargets, OpensWanted, ending_by}
use Rattle.looked_search.specs.declared.fault.SearchFault.TheVariants as faults
use Rattle.looked_search.specs.Finding.{AddsLinks, SearchesPart}
use Rattle.looked_search.specs.Tree.{SeesTree}
use Rattle.seen_update.specs.Found.{FindsOf}
use Rattle.tree_face.specs.Known.{IfKnown}
use Rattle.looked_search.proofs.finding.find_part.Goals as goal
use Rattle.lib_types.proofs.Results.{ok_then}

pub returns-clause-finds : goal.returns-clause-finds
returns-clause-finds g c =
    let scope = c.args.scope.now in
    let loaded = c.args.loaded.now in
    let a = g.F.Folder.state c.args.folder.now in
    let b = g.F.Folder.state c.see_tree.new.folder in
    let d = g.F.Folder.state c.with_sonames.new.folder in
    let start = g.S.Store.state c.args.store.now in
    let middle = g.S.Store.state c.see_tree.new.store in
    let conf = c.in_ok-conf.conf in
    let y = c.see_tree.new.looked in
    let found = c.in_ok-found.found in
    let tree = c.search_part.new.part in
    ok_then (AddsLinks b d found tree) (λ part. IfKnown a.contents (λ k. IfKnown start.held (λ held. FindsOf scope held k.now loaded part.found part.tree)))
    c.with_sonames.result
    (λ part adds. part_finds scope loaded c.requires.recordable conf a b d start middle y
    (subst (λ (l : Looked). SeesTree scope conf a b start middle l y) c.new-looked.ensures c.in_ok-conf.ensures.sees) (g.met.F.Folder.whole c.args.folder.now) found tree
    (subst (λ (n : Nodes). SearchesPart scope loaded conf n middle found tree) c.into_tree-tree.ensures c.in_ok-found.ensures.searches) part adds)
    c.with_sonames.ensures.adds

pub returns-in_err-conf-clause-opens : goal.returns-in_err-conf-clause-opens
returns-in_err-conf-clause-opens g c =
    let a = g.F.Folder.state c.args.folder.now in
    let start = g.S.Store.state c.args.store.now in
    let middle = g.S.Store.state c.see_tree.new.store in
    let same : c.from_residual.result ≡ Err c.in_err-conf.field-0.0 = search rules in
    let opens = rw c.in_err-conf.was at c.see_tree.ensures.opens in
    rw same
    (conf_failed c.args.scope.now c.args.loaded.now a c.in_err-conf.field-0.0 start middle (g.met.F.Folder.whole c.args.folder.now) c.in_err-conf.ensures.others
    (subst (λ (l : Looked). OpensConf c.args.scope.now (ending_by c.in_err-conf.field-0.0) a l start middle) c.new-looked.ensures opens))

pub returns-in_err-conf-clause-too_large : goal.returns-in_err-conf-clause-too_large
returns-in_err-conf-clause-too_large g c nodes is =
    let same : c.in_err-conf.field-0.0 ≡ faults.Find (finding.TooLarge nodes) = search rules in
    absurd (seeing_fits nodes c.in_err-conf.field-0.0 c.in_err-conf.ensures.others same)

pub returns-in_err-found-clause-opens : goal.returns-in_err-found-clause-opens
returns-in_err-found-clause-opens g c =
    let scope = c.args.scope.now in
    let loaded = c.args.loaded.now in
    let a = g.F.Folder.state c.args.folder.now in
    let b = g.F.Folder.state c.see_tree.new.folder in
    let start = g.S.Store.state c.args.store.now in
    let middle = g.S.Store.state c.see_tree.new.store in
    let end = g.S.Store.state c.search_part.new.store in
    let conf = c.in_ok-conf.conf in
    let y = c.see_tree.new.looked in
    let fault = c.in_err-found.field-0.0 in
    let same : c.from_residual-in_err-found.result ≡ Err (faults.Find fault) = search rules in
    let opened = rw c.in_err-found.was at c.search_part.ensures.opens in
    rw same
    (part_failed scope loaded c.requires.recordable conf a b start middle y
    (subst (λ (l : Looked). SeesTree scope conf a b start middle l y) c.new-looked.ensures c.in_ok-conf.ensures.sees)
    (subst (λ (l : Looked). OpensConf scope Complete a l start middle) c.new-looked.ensures c.in_ok-conf.ensures.opens) (g.met.F.Folder.whole c.args.folder.now) fault end
    (subst (λ (n : Nodes). OpensWanted scope loaded conf n fault middle end ⊎ OpensTargets scope loaded conf n (find_ending {A = Unit {0}} (Err fault)) middle end) c.into_tree-tree.ensures opened))

pub returns-in_err-found-clause-too_large : goal.returns-in_err-found-clause-too_large
returns-in_err-found-clause-too_large g c nodes is =
    let scope = c.args.scope.now in
    let loaded = c.args.loaded.now in
    let a = g.F.Folder.state c.args.folder.now in
    let b = g.F.Folder.state c.see_tree.new.folder in
    let start = g.S.Store.state c.args.store.now in
    let middle = g.S.Store.state c.see_tree.new.store in
    let conf = c.in_ok-conf.conf in
    let y = c.see_tree.new.looked in
    none_fits scope loaded c.requires.recordable conf a b start middle y
    (subst (λ (l : Looked). SeesTree scope conf a b start middle l y) c.new-looked.ensures c.in_ok-conf.ensures.sees)
    (subst (λ (l : Looked). OpensConf scope Complete a l start middle) c.new-looked.ensures c.in_ok-conf.ensures.opens) (g.met.F.Folder.whole c.args.folder.now) nodes
    (subst (λ (n : Nodes). HasNoRoom scope loaded conf n middle.held nodes) c.into_tree-tree.ensures (c.in_err-found.ensures.too_large nodes (search rules)))

pub returns-clause-opens : goal.returns-clause-opens
returns-clause-opens g c =
    let scope = c.args.scope.now in
    let loaded = c.args.loaded.now in
    let a = g.F.Folder.state c.args.folder.now in
    let b = g.F.Folder.state c.see_tree.new.folder in
    let start = g.S.Store.state c.args.store.now in
    let middle = g.S.Store.state c.see_tree.new.store in
    let end = g.S.Store.state c.search_part.new.store in
    let conf = c.in_ok-conf.conf in
    let y = c.see_tree.new.looked in
    last_opens scope loaded a start end c.with_sonames.result c.with_sonames.ensures.others
    (targets_opened scope loaded c.requires.recordable conf a b start middle y
    (subst (λ (l : Looked). SeesTree scope conf a b start middle l y) c.new-looked.ensures c.in_ok-conf.ensures.sees)
    (subst (λ (l : Looked). OpensConf scope Complete a l start middle) c.new-looked.ensures c.in_ok-conf.ensures.opens) (g.met.F.Folder.whole c.args.folder.now) Complete end
    (subst (λ (n : Nodes). OpensTargets scope loaded conf n Complete middle end) c.into_tree-tree.ensures c.in_ok-found.ensures.opens))
