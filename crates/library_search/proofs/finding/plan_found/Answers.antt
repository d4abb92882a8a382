use Rattle.std.proofs.Common.{rules, ◌≡◌, Err, ap, refl}
use Rattle.file_table.specs.Table.{analysis_at}
use Rattle.tree_face.proofs.StoreUse.{reads_all}
use Rattle.library_search.proofs.Bests.{bests_kept}
use Rattle.library_search.proofs.Judged.{judged_keep}
use Rattle.library_search.proofs.Opened.{follow_keys, known_followed, links_failed, same_ending}
use Rattle.library_search.specs.declared.finding.Found.{Found}
use Rattle.library_search.specs.declared.following.Followed.{Followed}
use Rattle.library_search.specs.declared.fault.FindFault.TheVariants as finding
use Rattle.library_search.specs.Faults.{of_apply}
use Rattle.library_search.proofs.finding.plan_found.Goals as goal

pub returns-in_err-links-clause-too_large : goal.returns-in_err-links-clause-too_large
returns-in_err-links-clause-too_large g c nodes is = c.in_err-links.ensures.too_large nodes (search rules)

pub returns-in_err-links-clause-reads : goal.returns-in_err-links-clause-reads
returns-in_err-links-clause-reads g c =
    let same : c.from_residual.result ≡ Err (of_apply c.in_err-links.field-0.0) = search rules in
    rw same (links_failed c.args.loaded.now c.args.search c.args.tree.now Found c.in_err-links.field-0.0 (λ nodes e. c.in_err-links.ensures.too_large nodes (ap Err e)) _)

pub returns-in_err-followed-clause-reads : goal.returns-in_err-followed-clause-reads
returns-in_err-followed-clause-reads g c =
    let same : c.from_residual-in_err-followed.result ≡ Err c.in_err-followed.field-0.0 = search rules in
    let keys = follow_keys c.args.loaded.now c.args.search c.args.tree.now c.plan_links.new.tree c.in_ok-links.ensures.tree c.in_ok-links.ensures.few in
    rw (same, same_ending Found Followed c.in_err-followed.field-0.0, ← keys) (rw c.in_err-followed.was at c.follow_links.ensures.reads)

-- memory runs out after all files were read
pub returns-in_err-judge-clause-reads : goal.returns-in_err-judge-clause-reads
returns-in_err-judge-clause-reads g c =
    let same : c.from_residual-in_err-judge.result ≡ Err finding.NoMemory = search rules in
    let keys = follow_keys c.args.loaded.now c.args.search c.args.tree.now c.plan_links.new.tree c.in_ok-links.ensures.tree c.in_ok-links.ensures.few in
    rw (same, ← keys) (reads_all _ _ _ _ _ c.in_ok-followed.ensures.reads)

pub returns-clause-reads : goal.returns-clause-reads
returns-clause-reads g c =
    let keys = follow_keys c.args.loaded.now c.args.search c.args.tree.now c.plan_links.new.tree c.in_ok-links.ensures.tree c.in_ok-links.ensures.few in
    rw (← keys) c.in_ok-followed.ensures.reads

pub returns-clause-planned : goal.returns-clause-planned
returns-clause-planned g c =
    let planned = c.in_ok-links.ensures in
    let followed = c.in_ok-followed.ensures in
    record {
      conf = refl;
      dirs = refl;
      plan = planned.plan;
      few = planned.few;
      tree_is = planned.tree;
      alike = planned.alike;
      settled = planned.settled;
      blocked_is = planned.blocked;
      mixed_is = planned.mixed;
      dangling_is = followed.dangling;
      kept = judged_keep c.args.scope.now (analysis_at c.follow_links.new.files.table) (analysis_at c.judge.new.table) c.in_ok-judge.ensures.judged (analysis_at c.args.search.files.table)
          c.requires.looked.judged followed.kept;
      only = rw c.in_ok-judge.ensures.rows followed.only;
      opened = followed.begun;
    }

pub returns-clause-followed : goal.returns-clause-followed
returns-clause-followed g c =
    let followed = c.in_ok-followed.ensures in
    known_followed c.args.loaded.now c.args.search c.args.tree.now c.args.scope.now
    (record { search = record c.args.search { files = record c.follow_links.new.files { table = c.judge.new.table } }; links = c.in_ok-links.links; followed = c.in_ok-followed.followed }) c.plan_links.new.tree
    (analysis_at c.follow_links.new.files.table) c.in_ok-judge.ensures.judged _ followed.info followed.stamps followed.none_lacks

pub returns-clause-bests : goal.returns-clause-bests
returns-clause-bests g c =
    bests_kept c.args.tree.now c.plan_links.new.tree (analysis_at c.args.search.files.table) (analysis_at c.judge.new.table) c.args.search.dirs.places c.in_ok-links.ensures.settled
    c.in_ok-links.links.bests c.in_ok-links.ensures.bests c.requires.looked.all
    (judged_keep c.args.scope.now (analysis_at c.follow_links.new.files.table) (analysis_at c.judge.new.table) c.in_ok-judge.ensures.judged (analysis_at c.args.search.files.table)
    c.requires.looked.judged c.in_ok-followed.ensures.kept)
