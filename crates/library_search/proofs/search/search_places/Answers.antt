use Rattle.std.proofs.Common.{rules, ◌≡◌, ℕ, List, Err, ap, sym, subst, ◌∙◌, nat_cmp}
use Rattle.std.specs.Cmp.Lexicographic.{slice_cmp}
use Rattle.std.specs.List.Sorted.{IsStrictlySortedBy}
use Rattle.library_files.specs.FoundFile.{paths_of}
use Rattle.library_files.specs.Search.{wanted}
use Rattle.file_table.specs.Table.{analysis_at}
use Rattle.hwcap_dirs.specs.Places.{places}
use Rattle.library_search.proofs.Bests.{wanted_read}
use Rattle.library_search.proofs.FilesAgree.{wanted_sorted}
use Rattle.library_search.proofs.Judged.{are_judged, judged_have, still_read}
use Rattle.library_search.proofs.Rows.{rows_read}
use Rattle.tree_face.proofs.StoreUse.{reads_all}
use Rattle.library_search.proofs.Opened.{none_read, reading_ending}
use Rattle.library_search.proofs.SearchParts.{is_empty, keys_are, known_read}
use Rattle.library_search.specs.Begun.{opened_wanted}
use Rattle.library_search.specs.Faults.{of_reading}
use Rattle.library_search.specs.declared.fault.FindFault.TheVariants as finding
use Rattle.library_search.specs.declared.search.Search.{Search}
use Rattle.library_search.proofs.search.search_places.Goals as goal

pub read_files-requires : goal.read_files-requires
read_files-requires g c = record {
  sorted = subst (λ (paths : List (List ℕ)). IsStrictlySortedBy (slice_cmp nat_cmp) paths) (sym c.in_ok-found.ensures.paths) (wanted_sorted c.args.tree.now c.in_ok-dirs.dirs.places);
  files = c.in_ok-found.ensures.files;
  recordable = c.requires.recordable;
}

pub returns-clause-read : goal.returns-clause-read
returns-clause-read g c =
    let first = c.new-files.result in
    let empty = is_empty first c.new-files.ensures.table c.new-files.ensures.stamps c.new-files.ensures.begun in
    let read = c.in_ok-read_files.ensures in
    let paths = c.in_ok-found.ensures.paths in
    known_read c.args.tree.now c.args.loaded.now first empty c.args.scope.now
    (record { conf = c.args.conf; dirs = c.in_ok-dirs.dirs; files = record c.read_files.new.files { table = c.judge.new.table } })
    (analysis_at c.read_files.new.files.table) c.in_ok-judge.ensures.judged _
    (rw paths at read.info) (rw paths at read.stamps) (rw paths at read.stamped) (rw paths at read.ids) (rw paths at read.begun) (rw paths at read.none_lacks)

pub returns-clause-all_read : goal.returns-clause-all_read
returns-clause-all_read g c =
    still_read c.args.scope.now (analysis_at c.read_files.new.files.table) (analysis_at c.judge.new.table) c.in_ok-judge.ensures.judged c.args.tree.now (wanted c.args.tree.now c.in_ok-dirs.dirs.places)
    (rw c.in_ok-found.ensures.paths at c.in_ok-read_files.ensures.all)

pub returns-clause-looked : goal.returns-clause-looked
returns-clause-looked g c =
    let paths : paths_of c.in_ok-found.found.items ≡ wanted c.args.tree.now c.in_ok-dirs.dirs.places = c.in_ok-found.ensures.paths in
    let have = wanted_read c.args.tree.now c.know.ensures (analysis_at c.read_files.new.files.table) c.in_ok-dirs.dirs.places (rw paths at c.in_ok-read_files.ensures.all) in
    let have_judged = judged_have c.args.scope.now (analysis_at c.read_files.new.files.table) (analysis_at c.judge.new.table) c.in_ok-judge.ensures.judged (wanted c.args.tree.now c.in_ok-dirs.dirs.places) have in
    record {
      dirs = c.in_ok-dirs.ensures.real;
      all = have_judged;
      rows = rows_read c.new-files.result.table c.judge.new.table (wanted c.args.tree.now c.in_ok-dirs.dirs.places) c.new-files.ensures.table have_judged
          (c.in_ok-judge.ensures.rows ∙ (rw paths at c.in_ok-read_files.ensures.rows));
      judged = are_judged c.args.scope.now (analysis_at c.read_files.new.files.table) (analysis_at c.judge.new.table) c.in_ok-judge.ensures.judged;
    }

pub returns-in_err-found-clause-reads : goal.returns-in_err-found-clause-reads
returns-in_err-found-clause-reads g c =
    let same : c.from_residual-in_err-found.result ≡ Err finding.NoMemory = search rules in
    rw same (none_read (opened_wanted c.args.tree.now c.args.loaded.now (places c.args.scope.now c.args.tree.now c.args.conf.dirs)) (g.S.Store.state c.args.store.now))

pub returns-in_err-read_files-clause-reads : goal.returns-in_err-read_files-clause-reads
returns-in_err-read_files-clause-reads g c =
    let same : c.from_residual-in_err-read_files.result ≡ Err (of_reading c.in_err-read_files.field-0.0) = search rules in
    let empty = is_empty c.new-files.result c.new-files.ensures.table c.new-files.ensures.stamps c.new-files.ensures.begun in
    let keys = keys_are c.args.tree.now c.args.loaded.now c.new-files.result empty c.in_ok-dirs.dirs.places
    ∙ ap (opened_wanted c.args.tree.now c.args.loaded.now) c.in_ok-dirs.ensures.places in
    rw (same, ← reading_ending (Unit {0}) Search c.in_err-read_files.field-0.0, ← keys) (rw (c.in_err-read_files.was, c.in_ok-found.ensures.paths) at c.read_files.ensures.reads)

-- memory runs out after all files were read
pub returns-in_err-judge-clause-reads : goal.returns-in_err-judge-clause-reads
returns-in_err-judge-clause-reads g c =
    let same : c.from_residual-in_err-judge.result ≡ Err finding.NoMemory = search rules in
    let empty = is_empty c.new-files.result c.new-files.ensures.table c.new-files.ensures.stamps c.new-files.ensures.begun in
    let keys = keys_are c.args.tree.now c.args.loaded.now c.new-files.result empty c.in_ok-dirs.dirs.places
    ∙ ap (opened_wanted c.args.tree.now c.args.loaded.now) c.in_ok-dirs.ensures.places in
    rw (same, ← keys) (reads_all _ _ _ _ _ (rw c.in_ok-found.ensures.paths at c.in_ok-read_files.ensures.reads))

pub returns-clause-reads : goal.returns-clause-reads
returns-clause-reads g c =
    let empty = is_empty c.new-files.result c.new-files.ensures.table c.new-files.ensures.stamps c.new-files.ensures.begun in
    let keys = keys_are c.args.tree.now c.args.loaded.now c.new-files.result empty c.in_ok-dirs.dirs.places
    ∙ ap (opened_wanted c.args.tree.now c.args.loaded.now) c.in_ok-dirs.ensures.places in
    rw (← keys) (rw c.in_ok-found.ensures.paths at c.in_ok-read_files.ensures.reads)
