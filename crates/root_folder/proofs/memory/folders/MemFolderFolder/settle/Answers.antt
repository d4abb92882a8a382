use Rattle.root_folder.proofs.Moments.{settles}
use Rattle.root_folder.proofs.memory.folders.MemFolderFolder.settle.Goals as goal

pub returns-clause-crash : goal.returns-clause-crash
returns-clause-crash c =
    settles c.args.dir.now c.args.self.now (record c.add_settling-done.new.self { failures = c.answer.new.failures }) c.add_settling-done.result c.answer.result c.answer.ensures.same
    c.add_settling-done.ensures.held
