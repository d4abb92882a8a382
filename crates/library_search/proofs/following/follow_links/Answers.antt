use Rattle.std.proofs.Common.{rules, ◌≡◌, ℕ, List, Err, nat_cmp, sym, subst}
use Rattle.std.specs.Cmp.Lexicographic.{slice_cmp}
use Rattle.std.specs.List.Sorted.{IsStrictlySortedBy}
use Rattle.file_table.proofs.Unread.{unread_sorted}
use Rattle.file_table.specs.Analyses.{Analyses, unread}
use Rattle.library_files.specs.Search.{reached}
use Rattle.file_table.specs.Table.{analysis_at}
use Rattle.file_stamps.proofs.Unread.{all_read, among_both, unread_twice}
use Rattle.tree_face.proofs.StoreUse.{reads_all}
use Rattle.library_search.proofs.FilesAgree.{reached_sorted}
use Rattle.library_search.specs.declared.fault.FindFault.TheVariants as finding
use Rattle.library_search.proofs.following.follow_links.Goals as goal

-- selecting the files without analysis twice is the same as selecting them once
those : (what : Analyses) (paths files : List (List ℕ)) → paths ≡ unread what files → unread what paths ≡ unread what files
those what paths files is = rw is (unread_twice what files)

pub read_files-requires : goal.read_files-requires
read_files-requires g c = record {
  sorted = subst (λ (paths : List (List ℕ)). IsStrictlySortedBy (slice_cmp nat_cmp) paths) (sym c.in_ok-found.ensures.paths)
      (unread_sorted (analysis_at c.args.files.now.table) (reached c.args.tree.now c.args.dirs.now.places) (reached_sorted c.args.tree.now c.args.dirs.now.places));
  files = c.in_ok-found.ensures.files;
  recordable = c.requires.recordable;
}

pub returns-in_err-read_files-clause-reads : goal.returns-in_err-read_files-clause-reads
returns-in_err-read_files-clause-reads g c =
    let is = those (analysis_at c.args.files.now.table) _ _ c.in_ok-found.ensures.paths in
    search (rules, rw is at c.read_files.ensures.reads)

pub returns-in_err-dangling-clause-reads : goal.returns-in_err-dangling-clause-reads
returns-in_err-dangling-clause-reads g c =
    let is = those (analysis_at c.args.files.now.table) _ _ c.in_ok-found.ensures.paths in
    let same : c.from_residual-in_err-dangling.result ≡ Err finding.NoMemory = search rules in
    rw same (reads_all _ _ _ _ _ (rw is at c.in_ok-read_files.ensures.reads))

pub returns-clause-all : goal.returns-clause-all
returns-clause-all g c =
    let is = c.in_ok-found.ensures.paths in
    all_read c.args.tree.now _ _ _ c.in_ok-read_files.ensures.kept (rw is at c.in_ok-read_files.ensures.all)

pub returns-clause-only : goal.returns-clause-only
returns-clause-only g c =
    let is = those (analysis_at c.args.files.now.table) _ _ c.in_ok-found.ensures.paths in
    among_both (analysis_at c.args.files.now.table) (reached c.args.tree.now c.args.dirs.now.places) _ _ (rw is at c.in_ok-read_files.ensures.rows)

pub returns-clause-info : goal.returns-clause-info
returns-clause-info g c =
    let is = those (analysis_at c.args.files.now.table) _ _ c.in_ok-found.ensures.paths in
    rw is at c.in_ok-read_files.ensures.info

pub returns-clause-stamps : goal.returns-clause-stamps
returns-clause-stamps g c =
    let is = those (analysis_at c.args.files.now.table) _ _ c.in_ok-found.ensures.paths in
    rw is at c.in_ok-read_files.ensures.stamps

pub returns-clause-begun : goal.returns-clause-begun
returns-clause-begun g c =
    let is = those (analysis_at c.args.files.now.table) _ _ c.in_ok-found.ensures.paths in
    rw is at c.in_ok-read_files.ensures.begun

pub returns-clause-none_lacks : goal.returns-clause-none_lacks
returns-clause-none_lacks g c =
    let is = those (analysis_at c.args.files.now.table) _ _ c.in_ok-found.ensures.paths in
    rw is at c.in_ok-read_files.ensures.none_lacks

pub returns-clause-reads : goal.returns-clause-reads
returns-clause-reads g c =
    let is = those (analysis_at c.args.files.now.table) _ _ c.in_ok-found.ensures.paths in
    rw is at c.in_ok-read_files.ensures.reads
