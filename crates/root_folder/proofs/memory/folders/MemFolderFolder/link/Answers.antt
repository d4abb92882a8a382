use Rattle.std.proofs.Common.{rules}
use Rattle.root_folder.proofs.Moments.{adds_link, link_done, link_failed}
use Rattle.root_folder.proofs.memory.folders.MemFolderFolder.link.Goals as goal

pub returns-clause-does : goal.returns-clause-does
returns-clause-does c =
    let b = record c.add_link-done.new.self { failures = c.answer.new.failures } in
    record {
      done = link_done c.args.path.now c.args.target.now c.args.self.now b c.add_link-done.result c.answer.result c.answer.ensures.same c.add_link-done.ensures.held;
      failed = link_failed c.args.path.now c.args.target.now c.args.self.now b c.add_link-done.result c.answer.result c.answer.ensures.same c.add_link-done.ensures.held;
      counts = search rules;
      added = search rules;
      may_add = search rules;
      faults = search rules;
      no_fault = search rules;
      read_faults = search rules;
      cause = search rules;
    }

pub returns-clause-crash : goal.returns-clause-crash
returns-clause-crash c =
    adds_link c.args.path.now c.args.target.now c.args.self.now (record c.add_link-done.new.self { failures = c.answer.new.failures }) c.add_link-done.result c.answer.result
    c.answer.ensures.same c.add_link-done.ensures.held
