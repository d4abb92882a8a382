use Rattle.std.proofs.Common.{◌≡◌, ◌∷◌, [], rules, Err, Option, Some, None, refl, subst, ◌∙◌}
use Rattle.tree_face.specs.Store.{Contents}
use Rattle.rpath_search.specs.Candidates.{paths_left}
use Rattle.rpath_search.specs.Faults.{search_ending}
use Rattle.rpath_search.specs.Searching.{IsNew}
use Rattle.rpath_search.specs.declared.fault.SearchFault.TheVariants.{NoMemory}
use Rattle.rpath_search.proofs.Endings.{is_partial}
use Rattle.rpath_search.proofs.Tried.{all_tried, failed_on, finds_none, finds_on, found_on, gives_up, good_answer, no_answer, none_tried, tried_on}
use Rattle.rpath_search.proofs.search.search_paths.Goals as goal

pub loop-left-init : goal.loop-left-init
loop-left-init g c =
    let st = g.S.Store.state c.args.store.now in
    record { held = refl; inside = c.requires.inside; tried = none_tried st.held c.args.tree.now c.args.abi c.args.files.now.loaded (paths_left c.args.paths) st }

pub returns-in_err-path-clause-searches : goal.returns-in_err-path-clause-searches
returns-in_err-path-clause-searches g c =
    let same : c.from_residual.result ≡ Err NoMemory = search rules in
    rw same (gives_up _ c.args.tree.now c.args.abi c.args.files.now.loaded (paths_left c.args.paths) _ _ _ c.loop-left.invariant.tried)

pub returns-in_err-answer-clause-searches : goal.returns-in_err-answer-clause-searches
returns-in_err-answer-clause-searches g c =
    let fault = c.in_err-answer.field-0.0 in
    let failed : c.try_path.result ≡ Err fault = c.in_err-answer.was in
    let same : c.from_residual-in_err-answer.result ≡ Err fault = search rules in
    let next : paths_left c.loop-left.left ≡ c.in-Some.path ∷ paths_left c.next_path.new.self = search rules in
    rw same (failed_on _ c.args.tree.now c.args.abi c.args.files.now.loaded (paths_left c.args.paths) _ _ _ c.loop-left.invariant.tried c.in-Some.path _ next
    (search_ending {A = Unit {0}} (Err fault)) _ (is_partial (Unit {0}) fault) (rw (failed, c.loop-left.invariant.held) at c.try_path.ensures.reads))

pub returns-in-Some-2-clause-finds : goal.returns-in-Some-2-clause-finds
returns-in-Some-2-clause-finds g c =
    let next : paths_left c.loop-left.left ≡ c.in-Some.path ∷ paths_left c.next_path.new.self = search rules in
    finds_on _ c.args.tree.now c.args.abi c.args.files.now.loaded (paths_left c.args.paths) _ _ _ c.loop-left.invariant.tried c.in-Some.path _ next c.in-Some-2.answer
    (rw (c.in-Some-2.is, c.loop-left.invariant.held) at c.in_ok-answer.ensures.tries)

pub returns-in-Some-2-clause-new : goal.returns-in-Some-2-clause-new
returns-in-Some-2-clause-new g c =
    subst (λ (known : Option Contents). IsNew known c.args.tree.now c.args.abi c.args.files.now.loaded (Some c.in-Some-2.answer)) c.loop-left.invariant.held (rw c.in-Some-2.is at c.in_ok-answer.ensures.new)

pub returns-in-Some-2-clause-searches : goal.returns-in-Some-2-clause-searches
returns-in-Some-2-clause-searches g c =
    let next : paths_left c.loop-left.left ≡ c.in-Some.path ∷ paths_left c.next_path.new.self = search rules in
    found_on _ c.args.tree.now c.args.abi c.args.files.now.loaded (paths_left c.args.paths) _ _ _ c.loop-left.invariant.tried c.in-Some.path _ next _
    (good_answer _ _ _ _ _ _ (rw (c.in-Some-2.is, c.loop-left.invariant.held) at c.in_ok-answer.ensures.tries))
    (rw c.loop-left.invariant.held at c.in_ok-answer.ensures.held)
    (rw (c.in_ok-answer.was, c.loop-left.invariant.held) at c.try_path.ensures.reads)

pub loop-left-preserved : goal.loop-left-preserved
loop-left-preserved g c =
    let none : c.in_ok-answer.field-0 ≡ None = search rules in
    let next : paths_left c.loop-left.left ≡ c.in-Some.path ∷ paths_left c.next_path.new.self = search rules in
    record {
      held = c.try_path.ensures.reads.held ∙ c.loop-left.invariant.held;
      inside = c.next_path.ensures.inside;
      tried = tried_on _ c.args.tree.now c.args.abi c.args.files.now.loaded (paths_left c.args.paths) _ _ _ c.loop-left.invariant.tried c.in-Some.path _ next _
          (no_answer _ c.args.tree.now c.args.abi c.args.files.now.loaded c.in-Some.path (rw (none, c.loop-left.invariant.held) at c.in_ok-answer.ensures.tries))
          (rw c.loop-left.invariant.held at c.in_ok-answer.ensures.held)
          (rw (c.in_ok-answer.was, c.loop-left.invariant.held) at c.try_path.ensures.reads);
    }

pub returns-clause-finds : goal.returns-clause-finds
returns-clause-finds g c =
    let end : paths_left c.loop-left.left ≡ [] = search rules in
    finds_none _ c.args.tree.now c.args.abi c.args.files.now.loaded (paths_left c.args.paths) _ _ _ c.loop-left.invariant.tried end

pub returns-clause-searches : goal.returns-clause-searches
returns-clause-searches g c =
    let end : paths_left c.loop-left.left ≡ [] = search rules in
    all_tried _ c.args.tree.now c.args.abi c.args.files.now.loaded (paths_left c.args.paths) _ _ _ c.loop-left.invariant.tried end
