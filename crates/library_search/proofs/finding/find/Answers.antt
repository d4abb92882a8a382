use Rattle.std.proofs.Common.{rules, ◌≡◌, Err, subst, sym}
use Rattle.std.specs.Bool.{IsTrue}
use Rattle.hwcap_dirs.specs.Places.{are_spelled}
use Rattle.hwcap_dirs.specs.declared.kinds.Dirs.{Dirs}
use Rattle.planned_tree.specs.Search.{IsSearchedAlike}
use Rattle.soname_links.specs.Settled.{IsSettled}
use Rattle.tree_face.specs.Known.{IfKnown}
use Rattle.library_search.proofs.Endings.{found_reads, search_failed}
use Rattle.library_search.proofs.KnownParts.{is_found, none_lacks, planned_are, planned_only, same_files, settled, too_large}
use Rattle.library_search.proofs.Results.{ok_both}
use Rattle.library_search.specs.Faults.{find_ending}
use Rattle.library_search.specs.Found.{IsFound}
use Rattle.library_search.specs.Judged.{judged}
use Rattle.library_search.specs.Ldconfig.{info_wanted, places_in}
use Rattle.library_search.specs.Stages.{HasFollowed, IsPlannedFor, IsSearchOf, opened_planned}
use Rattle.library_search.specs.declared.finding.Found.{Found}
use Rattle.library_search.specs.declared.search.Search.{Search}
use Rattle.library_search.proofs.finding.find.Goals as goal
use Rattle.lib_types.proofs.Results.{ok_then}

pub returns-in_err-search-clause-reads : goal.returns-in_err-search-clause-reads
returns-in_err-search-clause-reads g c =
    let same : c.from_residual.result ≡ Err c.in_err-search.field-0.0 = search rules in
    rw same (search_failed c.args.scope.now c.args.tree.now c.args.loaded.now _ _ Search Found c.in_err-search.field-0.0 c.in_err-search.ensures.others (rw c.in_err-search.was at c.search_image.ensures.reads))

pub plan_found-requires-clause-looked : goal.plan_found-requires-clause-looked
plan_found-requires-clause-looked g c =
    record { dirs = c.in_ok-search.ensures.real; all = c.in_ok-search.ensures.all; rows = c.in_ok-search.ensures.rows; judged = c.in_ok-search.ensures.judged }

pub returns-clause-found : goal.returns-clause-found
returns-clause-found g c =
    let scope = c.args.scope.now in
    let t = c.args.tree.now in
    let loaded = c.args.loaded.now in
    let search = c.in_ok-search.search in
    let ensured = c.in_ok-search.ensures in
    let is : IsSearchOf scope t search = record { dirs = ensured.real; all = ensured.all; rows = ensured.rows; judged = ensured.judged } in
    let known = (g.S.Store.state c.args.store.now).held in
    let new = c.plan_found.new.tree in
    ok_both (λ found. IsPlannedFor loaded search t found new) (λ found. IfKnown known (λ held. HasFollowed scope held loaded search found new)) (λ found. IfKnown known (λ held. IsFound scope held t loaded found new))
    c.plan_found.result (λ found p f. is_found scope t loaded search is found new p known ensured.found f) c.plan_found.ensures.planned (rw ensured.reads.held at c.plan_found.ensures.followed)

pub returns-clause-alike : goal.returns-clause-alike
returns-clause-alike g c =
    ok_then (λ found. IsPlannedFor c.args.loaded.now c.in_ok-search.search c.args.tree.now found c.plan_found.new.tree) (λ found. IsSearchedAlike c.args.tree.now c.plan_found.new.tree)
    c.plan_found.result (λ found p. p.alike) c.plan_found.ensures.planned

pub returns-clause-settled : goal.returns-clause-settled
returns-clause-settled g c =
    let scope = c.args.scope.now in
    let t = c.args.tree.now in
    let loaded = c.args.loaded.now in
    let known = (g.S.Store.state c.args.store.now).held in
    let new = c.plan_found.new.tree in
    ok_then (λ found. IsPlannedFor loaded c.in_ok-search.search t found new) (λ found. IfKnown known (λ held. IsSettled (judged scope (info_wanted scope held t loaded)) t (places_in scope held t) new))
    c.plan_found.result (λ found p. settled scope t loaded c.in_ok-search.search known c.in_ok-search.ensures.found new p.settled) c.plan_found.ensures.planned

pub returns-clause-spelled : goal.returns-clause-spelled
returns-clause-spelled g c =
    ok_then (λ found. IsPlannedFor c.args.loaded.now c.in_ok-search.search c.args.tree.now found c.plan_found.new.tree) (λ found. IsTrue (are_spelled found.search.dirs.places))
    c.plan_found.result (λ found p. subst (λ (d : Dirs). IsTrue (are_spelled d.places)) (sym p.dirs) c.in_ok-search.ensures.spelled) c.plan_found.ensures.planned

pub returns-clause-too_large : goal.returns-clause-too_large
returns-clause-too_large g c nodes is =
    too_large c.args.scope.now c.args.tree.now c.args.loaded.now c.in_ok-search.search _ c.in_ok-search.ensures.found nodes (c.plan_found.ensures.too_large nodes is)

pub returns-clause-reads : goal.returns-clause-reads
returns-clause-reads g c =
    let scope = c.args.scope.now in
    let t = c.args.tree.now in
    let loaded = c.args.loaded.now in
    let search = c.in_ok-search.search in
    let ensured = c.in_ok-search.ensures in
    let is : IsSearchOf scope t search = record { dirs = ensured.real; all = ensured.all; rows = ensured.rows; judged = ensured.judged } in
    let files = same_files t search c.know.ensures c.know-2.ensures ensured.real in
    found_reads scope t loaded _ _ (find_ending c.plan_found.result) (opened_planned loaded search t) _
    (none_lacks scope t loaded search _ ensured.found) (planned_are scope t loaded search _ ensured.found is files) (planned_only scope t loaded search _ ensured.found files)
    ensured.reads (rw ensured.reads.held at c.plan_found.ensures.reads)
