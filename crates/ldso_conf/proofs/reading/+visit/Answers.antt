use Rattle.std.proofs.Common.{◌≡◌, ◌-◌, ◌++◌, ◌∙◌, [], ap, arith, rules, Err}
use Rattle.std.proofs.lemmas.Grind.{common_steps}
use Rattle.std.specs.List.{flat_map}
use Rattle.tree_face.specs.StoreUse.{Complete, GaveUp}
use Rattle.conf_patterns.specs.Patterns.{Found}
use Rattle.ldso_conf.specs.Reading.{asked, begun, included, place_in, steps_in}
use Rattle.ldso_conf.specs.Visits.{Progress}
use Rattle.ldso_conf.specs.Endings.{read_ending, read_ending_by}
use Rattle.ldso_conf.specs.declared.steps.Step.TheVariants as step
use Rattle.ldso_conf.proofs.Looking.{alone_looked, dir_looked, file_looked, report_looked, step_looked}
use Rattle.ldso_conf.proofs.Uses.{all_done, any_on, dir_taken, file_any, file_done, file_stops, items_stop, partial, report_taken, step_done, stops_here}
use Rattle.ldso_conf.proofs.Visiting.{by_file, dir_files, file_taken, steps_left}
use Rattle.ldso_conf.proofs.reading.+visit.Goals as goal

pub returns-in_err-step-items-clause-reads : goal.returns-in_err-step-items-clause-reads
returns-in_err-step-items-clause-reads g t c =
    let b = rw c.in-Some.is at c.in_ok-key.ensures.visits in
    let fault = c.in_err-step-items.field-0.0 in
    let same : c.from_residual-in_err-step-items.result ≡ Err fault = search rules in
    let was : c.load.result ≡ Err fault = search rules in
    let key = c.in-Some.key in
    let file : Found = (c.args.file.spelled, c.args.file.real) in
    let tree = (g.V.TreeView.state c.args.view.now).tree in
    let known = (g.S.Store.state c.args.store.now).held in
    rw same (λ knows. file_stops (λ held. included tree held c.args.left c.args.reader.now.read c.args.file) file key
    (λ held. asked (included tree held (c.args.left - 1)) (c.args.reader.now.read ++ place_in (begun file key (held key))) (steps_in tree (begun file key (held key))))
    (g.S.Store.state c.args.store.now) (g.S.Store.state c.load.new.store) known (read_ending_by fault)
    (λ held. by_file tree c.args.left c.args.reader.now file c.args.file.key c.key_to_begin.new.reader key b held) (partial fault) (rw was at c.load.ensures.reads))

pub loop-step-init : goal.loop-step-init
loop-step-init g t c =
    let b = rw c.in-Some.is at c.in_ok-key.ensures.visits in
    let gives = c.into_iter-step-iterator.ensures.into_iter_gives in
    let one = c.in_ok-step-items.ensures.files in
    let begins = c.in_ok-step-items.ensures.begun in
    let same = ap (λ (r : Progress). r.files) b.same in
    let key = c.in-Some.key in
    let file : Found = (c.args.file.spelled, c.args.file.real) in
    let tree = (g.V.TreeView.state c.args.view.now).tree in
    let steps = c.in_ok-step-items.step-items.items in
    let now = c.load.new.reader in
    let known = (g.S.Store.state c.args.store.now).held in
    record {
      deep = b.deep;
      done = λ knows. rw gives.0 (file_done (λ held. included tree held c.args.left c.args.reader.now.read c.args.file) file key
          (λ held. asked (included tree held (c.args.left - 1)) now.read steps)
          (g.S.Store.state c.args.store.now) (g.S.Store.state c.load.new.store) known c.args.reader.now now
          (steps_left tree c.args.left c.args.reader.now file c.args.file.key c.key_to_begin.new.reader key b now steps known (c.in_ok-step-items.ensures.loads knows))
          (file_taken tree c.args.left c.args.reader.now file c.args.file.key c.key_to_begin.new.reader key b now steps known (c.in_ok-step-items.ensures.loads knows))
          c.in_ok-step-items.ensures.reads);
      looks = λ knows. rw gives.0 (file_looked tree known (λ held. included tree held c.args.left c.args.reader.now.read c.args.file)
          (λ held. asked (included tree held (c.args.left - 1)) now.read steps) (λ held. begun file key (held key))
          (g.V.TreeView.state c.args.view.now) (g.V.TreeView.state c.load.new.view)
          (steps_left tree c.args.left c.args.reader.now file c.args.file.key c.key_to_begin.new.reader key b now steps known (c.in_ok-step-items.ensures.loads knows))
          (c.in_ok-step-items.ensures.looks knows));
      any = file_any known (g.S.Store.state c.args.store.now) (g.S.Store.state c.load.new.store) key c.in_ok-step-items.ensures.reads;
      knows = c.in_ok-step-items.ensures.knows;
      view = c.load.ensures.view;
      since = c.in_ok-step-items.ensures.since;
      held = c.load.ensures.reads.held;
      files = omega (arith, one, same);
      begun = omega (arith, one, same, begins);
    }

pub loop-step-preserved-in-Continue-branch-4 : goal.loop-step-preserved-in-Continue-branch-4
loop-step-preserved-in-Continue-branch-4 g t c =
    let known = (g.S.Store.state c.args.store.now).held in
    let tree = (g.V.TreeView.state c.args.view.now).tree in
    let start = g.S.Store.state c.args.store.now in
    let here = g.S.Store.state c.loop-step.store in
    let parts = dir_taken known c.loop-step.reader c.add_dir.new.self here c.in-Directory.dir c.in-Directory.origin c.in_ok-add_dir-in-Directory.ensures in
    let same = dir_files c.loop-step.reader c.add_dir.new.self c.in-Directory.dir c.in-Directory.origin c.in_ok-add_dir-in-Directory.ensures in
    let files = c.loop-step.invariant.files in
    let begins = c.loop-step.invariant.begun in
    record {
      deep = c.loop-step.invariant.deep;
      done = λ knows. step_done (λ held. included tree held c.args.left c.args.reader.now.read c.args.file) (λ held. included tree held (c.args.left - 1))
          (step.Directory c.in-Directory.dir c.in-Directory.origin) c.next.new.self.rest.items c.args.reader.now c.loop-step.reader c.add_dir.new.self start here here known
          (rw (c.in-Some-step.ensures.steps.0, c.in-Directory.is) at (c.loop-step.invariant.done knows)) parts.0 parts.1;
      looks = λ knows. step_looked tree known (λ held. included tree held c.args.left c.args.reader.now.read c.args.file) (λ held. included tree held (c.args.left - 1))
          (step.Directory c.in-Directory.dir c.in-Directory.origin) c.next.new.self.rest.items c.loop-step.reader c.add_dir.new.self
          (g.V.TreeView.state c.args.view.now) (g.V.TreeView.state c.loop-step.view) (g.V.TreeView.state c.loop-step.view)
          (rw (c.in-Some-step.ensures.steps.0, c.in-Directory.is) at (c.loop-step.invariant.looks knows)) c.loop-step.invariant.view parts.0
          (dir_looked tree known c.in-Directory.dir c.in-Directory.origin (g.V.TreeView.state c.loop-step.view));
      any = c.loop-step.invariant.any;
      knows = c.loop-step.invariant.knows;
      view = c.loop-step.invariant.view;
      since = c.loop-step.invariant.since;
      held = c.loop-step.invariant.held;
      files = omega (arith, files, same);
      begun = omega (arith, same, begins);
    }

pub returns-in_err-add_dir-in-Directory-clause-reads : goal.returns-in_err-add_dir-in-Directory-clause-reads
returns-in_err-add_dir-in-Directory-clause-reads g t c =
    let tree = (g.V.TreeView.state c.args.view.now).tree in
    let ends : read_ending c.from_residual-in_err-add_dir-in-Directory.result ≡ GaveUp = search rules in
    rw ends (λ knows. stops_here (λ held. included tree held c.args.left c.args.reader.now.read c.args.file)
    (λ held. asked (included tree held (c.args.left - 1)) c.loop-step.reader.read c.loop-step.step-iterator.rest.items)
    c.args.reader.now c.loop-step.reader (g.S.Store.state c.args.store.now) (g.S.Store.state c.loop-step.store) (g.S.Store.state c.args.store.now).held
    (c.loop-step.invariant.done knows))

pub loop-step-preserved-in-Continue-branch-5 : goal.loop-step-preserved-in-Continue-branch-5
loop-step-preserved-in-Continue-branch-5 g t c =
    let known = (g.S.Store.state c.args.store.now).held in
    let tree = (g.V.TreeView.state c.args.view.now).tree in
    let start = g.S.Store.state c.args.store.now in
    let here = g.S.Store.state c.loop-step.store in
    let parts = report_taken known c.loop-step.reader c.add_report.new.self here c.in-Report.report c.in_ok-add_report-in-Report.ensures in
    let same = ap (λ (r : Progress). r.files) c.in_ok-add_report-in-Report.ensures in
    let files = c.loop-step.invariant.files in
    let begins = c.loop-step.invariant.begun in
    record {
      deep = c.loop-step.invariant.deep;
      done = λ knows. step_done (λ held. included tree held c.args.left c.args.reader.now.read c.args.file) (λ held. included tree held (c.args.left - 1))
          (step.Report c.in-Report.report) c.next.new.self.rest.items c.args.reader.now c.loop-step.reader c.add_report.new.self start here here known
          (rw (c.in-Some-step.ensures.steps.0, c.in-Report.is) at (c.loop-step.invariant.done knows)) parts.0 parts.1;
      looks = λ knows. step_looked tree known (λ held. included tree held c.args.left c.args.reader.now.read c.args.file) (λ held. included tree held (c.args.left - 1))
          (step.Report c.in-Report.report) c.next.new.self.rest.items c.loop-step.reader c.add_report.new.self
          (g.V.TreeView.state c.args.view.now) (g.V.TreeView.state c.loop-step.view) (g.V.TreeView.state c.loop-step.view)
          (rw (c.in-Some-step.ensures.steps.0, c.in-Report.is) at (c.loop-step.invariant.looks knows)) c.loop-step.invariant.view parts.0
          (report_looked tree known c.in-Report.report (g.V.TreeView.state c.loop-step.view));
      any = c.loop-step.invariant.any;
      knows = c.loop-step.invariant.knows;
      view = c.loop-step.invariant.view;
      since = c.loop-step.invariant.since;
      held = c.loop-step.invariant.held;
      files = omega (arith, files, same);
      begun = omega (arith, same, begins);
    }

pub returns-in_err-add_report-in-Report-clause-reads : goal.returns-in_err-add_report-in-Report-clause-reads
returns-in_err-add_report-in-Report-clause-reads g t c =
    let tree = (g.V.TreeView.state c.args.view.now).tree in
    let ends : read_ending c.from_residual-in_err-add_report-in-Report.result ≡ GaveUp = search rules in
    rw ends (λ knows. stops_here (λ held. included tree held c.args.left c.args.reader.now.read c.args.file)
    (λ held. asked (included tree held (c.args.left - 1)) c.loop-step.reader.read c.loop-step.step-iterator.rest.items)
    c.args.reader.now c.loop-step.reader (g.S.Store.state c.args.store.now) (g.S.Store.state c.loop-step.store) (g.S.Store.state c.args.store.now).held
    (c.loop-step.invariant.done knows))

pub loop-step-preserved : goal.loop-step-preserved
loop-step-preserved g t c =
    let known = (g.S.Store.state c.args.store.now).held in
    let tree = (g.V.TreeView.state c.args.view.now).tree in
    let start = g.S.Store.state c.args.store.now in
    let here = g.S.Store.state c.loop-step.store in
    let next = g.S.Store.state c.visit.new.store in
    let files = c.loop-step.invariant.files in
    let begins = c.loop-step.invariant.begun in
    let more = c.in_ok-visit-in-Include.ensures.files in
    let begun_next = c.in_ok-visit-in-Include.ensures.begun in
    record {
      deep = c.loop-step.invariant.deep;
      done = λ knows.
          let known_here = c.loop-step.invariant.knows knows in
          step_done (λ held. included tree held c.args.left c.args.reader.now.read c.args.file) (λ held. included tree held (c.args.left - 1))
          (step.Include c.in-Include.file) c.next.new.self.rest.items c.args.reader.now c.loop-step.reader c.visit.new.reader start here next known
          (rw (c.in-Some-step.ensures.steps.0, c.in-Include.is) at (c.loop-step.invariant.done knows))
          (rw (c.loop-step.invariant.held, c.loop-step.invariant.view.tree) at (c.in_ok-visit-in-Include.ensures.visits known_here))
          (rw (c.loop-step.invariant.held, c.loop-step.invariant.view.tree) at (c.in_ok-visit-in-Include.ensures.reads known_here));
      looks = λ knows.
          let known_here = c.loop-step.invariant.knows knows in
          step_looked tree known (λ held. included tree held c.args.left c.args.reader.now.read c.args.file) (λ held. included tree held (c.args.left - 1))
          (step.Include c.in-Include.file) c.next.new.self.rest.items c.loop-step.reader c.visit.new.reader
          (g.V.TreeView.state c.args.view.now) (g.V.TreeView.state c.loop-step.view) (g.V.TreeView.state c.visit.new.view)
          (rw (c.in-Some-step.ensures.steps.0, c.in-Include.is) at (c.loop-step.invariant.looks knows)) c.loop-step.invariant.view
          (rw (c.loop-step.invariant.held, c.loop-step.invariant.view.tree) at (c.in_ok-visit-in-Include.ensures.visits known_here))
          (rw (c.loop-step.invariant.held, c.loop-step.invariant.view.tree) at (c.in_ok-visit-in-Include.ensures.looks known_here));
      any = any_on known start here next c.loop-step.invariant.any (rw c.loop-step.invariant.held at c.in_ok-visit-in-Include.ensures.any);
      knows = λ knows. c.in_ok-visit-in-Include.ensures.knows (c.loop-step.invariant.knows knows);
      since = λ start h. c.in_ok-visit-in-Include.ensures.since start (c.loop-step.invariant.since start h);
      view = record { tree = c.visit.ensures.view.tree ∙ c.loop-step.invariant.view.tree; whole = c.visit.ensures.view.whole ∙ c.loop-step.invariant.view.whole };
      held = c.visit.ensures.any.held ∙ c.loop-step.invariant.held;
      files = omega (arith, files, more);
      begun = omega (arith, files, begins, more, begun_next);
    }

pub returns-in_err-visit-in-Include-clause-reads : goal.returns-in_err-visit-in-Include-clause-reads
returns-in_err-visit-in-Include-clause-reads g t c =
    let fault = c.in_err-visit-in-Include.field-0.0 in
    let tree = (g.V.TreeView.state c.args.view.now).tree in
    let same : c.from_residual-in_err-visit-in-Include.result ≡ Err fault = search rules in
    let was : c.visit.result ≡ Err fault = search rules in
    rw same (λ knows. items_stop (λ held. included tree held c.args.left c.args.reader.now.read c.args.file)
    (λ held. included tree held (c.args.left - 1) c.loop-step.reader.read c.in-Include.file)
    (λ held. asked (included tree held (c.args.left - 1))
    (c.loop-step.reader.read ++ flat_map place_in (included tree held (c.args.left - 1) c.loop-step.reader.read c.in-Include.file)) c.next.new.self.rest.items)
    c.args.reader.now c.loop-step.reader (g.S.Store.state c.args.store.now) (g.S.Store.state c.loop-step.store) (g.S.Store.state c.visit.new.store)
    (g.S.Store.state c.args.store.now).held (read_ending_by fault)
    (rw (c.in-Some-step.ensures.steps.0, c.in-Include.is) at (c.loop-step.invariant.done knows)) (partial fault)
    (rw (was, c.loop-step.invariant.held, c.loop-step.invariant.view.tree) at (c.visit.ensures.reads (c.loop-step.invariant.knows knows))))

pub returns-clause-reads : goal.returns-clause-reads
returns-clause-reads g t c =
    let none : c.loop-step.step-iterator.rest.items ≡ [] = grind (arith, common_steps) in
    let tree = (g.V.TreeView.state c.args.view.now).tree in
    λ knows. (all_done (λ held. included tree held c.args.left c.args.reader.now.read c.args.file) (g.S.Store.state c.args.store.now).held c.args.reader.now
    c.loop-step.reader (g.S.Store.state c.args.store.now) (g.S.Store.state c.loop-step.store) (rw none at (c.loop-step.invariant.done knows))).1

pub returns-clause-visits : goal.returns-clause-visits
returns-clause-visits g t c =
    let none : c.loop-step.step-iterator.rest.items ≡ [] = grind (arith, common_steps) in
    let tree = (g.V.TreeView.state c.args.view.now).tree in
    λ knows. (all_done (λ held. included tree held c.args.left c.args.reader.now.read c.args.file) (g.S.Store.state c.args.store.now).held c.args.reader.now
    c.loop-step.reader (g.S.Store.state c.args.store.now) (g.S.Store.state c.loop-step.store) (rw none at (c.loop-step.invariant.done knows))).0

pub returns-clause-looks : goal.returns-clause-looks
returns-clause-looks g t c =
    let none : c.loop-step.step-iterator.rest.items ≡ [] = grind (arith, common_steps) in
    λ knows. rw none at (c.loop-step.invariant.looks knows)

pub returns-in_default-clause-looks : goal.returns-in_default-clause-looks
returns-in_default-clause-looks g t c =
    let b = rw c.in_default.is at c.in_ok-key.ensures.visits in
    let tree = (g.V.TreeView.state c.args.view.now).tree in
    λ knows. alone_looked tree (g.S.Store.state c.args.store.now).held (λ held. included tree held c.args.left c.args.reader.now.read c.args.file) b.report
    (g.V.TreeView.state c.args.view.now) (λ held. b.alone tree held)
