use Rattle.std.proofs.Common.{rules, ◌≡◌, true, ℕ, List, Err}
use Rattle.std.specs.Bool.{IsTrue}
use Rattle.std.specs.Map.{keys_of}
use Rattle.file_table.specs.Analyses.{HaveAnalyses}
use Rattle.file_table.specs.Table.{analysis_at}
use Rattle.hwcap_dirs.specs.Places.{are_dirs}
use Rattle.ldso_conf.specs.declared.kinds.Conf.{Conf}
use Rattle.library_files.specs.Search.{wanted}
use Rattle.place_libraries.specs.Rows.{AreOfPlaces}
use Rattle.string_pool.proofs.Members.{is_in}
use Rattle.library_search.proofs.Endings.{conf_failed}
use Rattle.library_search.proofs.FilesAgree.{rows_only}
use Rattle.library_search.proofs.KeysBegun.{search_all}
use Rattle.library_search.proofs.SearchParts.{all_conf, image_searched, wanted_keys_are}
use Rattle.library_search.specs.Faults.{find_ending, of_conf}
use Rattle.library_search.specs.Judged.{AreJudged}
use Rattle.library_search.specs.Stages.{IsSearchOf}
use Rattle.library_search.specs.declared.search.Search.{Search}
use Rattle.library_search.proofs.search.search_image.Goals as goal
use Rattle.lib_types.proofs.Results.{ok_then}

pub returns-in_err-conf-clause-reads : goal.returns-in_err-conf-clause-reads
returns-in_err-conf-clause-reads g c =
    let same : c.from_residual.result ≡ Err (of_conf c.in_err-conf.field-0.0) = search rules in
    rw same (conf_failed c.args.scope.now Conf Search c.args.tree.now c.args.loaded.now _ c.in_err-conf.field-0.0 _ _ (rw c.in_err-conf.was at c.read_source.ensures.reads))

pub returns-clause-found : goal.returns-clause-found
returns-clause-found g c =
    let made = c.search_places.ensures in
    image_searched c.args.scope.now c.args.tree.now c.args.loaded.now c.in_ok-conf.conf (g.S.Store.state c.args.store.now).held c.search_places.result c.in_ok-conf.ensures.conf made.conf made.places made.absent
    (rw c.in_ok-conf.ensures.reads.held at made.read)

pub returns-clause-reads : goal.returns-clause-reads
returns-clause-reads g c =
    let scope = c.args.scope.now in
    let t = c.args.tree.now in
    let loaded = c.args.loaded.now in
    let conf = c.in_ok-conf.conf in
    search_all scope t loaded (find_ending c.search_places.result) _ _ _ _ _ (all_conf scope t loaded conf _ c.in_ok-conf.ensures.conf) (wanted_keys_are scope t loaded conf _ c.in_ok-conf.ensures.conf)
    c.in_ok-conf.ensures.reads (rw c.in_ok-conf.ensures.reads.held at c.search_places.ensures.reads)

pub returns-clause-real : goal.returns-clause-real
returns-clause-real g c =
    ok_then (IsSearchOf c.args.scope.now c.args.tree.now) (λ search. IsTrue (are_dirs c.args.tree.now search.dirs.places)) c.search_places.result (λ search is. is.dirs) c.search_places.ensures.looked

pub returns-clause-all : goal.returns-clause-all
returns-clause-all g c =
    ok_then (IsSearchOf c.args.scope.now c.args.tree.now) (λ search. HaveAnalyses (analysis_at search.files.table) (wanted c.args.tree.now search.dirs.places)) c.search_places.result
    (λ search is. is.all) c.search_places.ensures.looked

pub returns-clause-rows : goal.returns-clause-rows
returns-clause-rows g c =
    ok_then (IsSearchOf c.args.scope.now c.args.tree.now) (λ search. AreOfPlaces c.args.tree.now search.dirs.places search.files.table) c.search_places.result (λ search is. is.rows) c.search_places.ensures.looked

pub returns-clause-only : goal.returns-clause-only
returns-clause-only g c =
    ok_then (IsSearchOf c.args.scope.now c.args.tree.now)
    (λ search. (path : List ℕ) → is_in (keys_of search.files.table) path ≡ true → is_in (wanted c.args.tree.now search.dirs.places) path ≡ true) c.search_places.result
    (λ search is. rows_only c.args.tree.now search.dirs.places search.files.table is.rows) c.search_places.ensures.looked

pub returns-clause-judged : goal.returns-clause-judged
returns-clause-judged g c =
    ok_then (IsSearchOf c.args.scope.now c.args.tree.now) (λ search. AreJudged c.args.scope.now (analysis_at search.files.table)) c.search_places.result (λ search is. is.judged) c.search_places.ensures.looked
