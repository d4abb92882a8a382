use Rattle.std.proofs.Common.{sym, subst}
use Rattle.library_files.proofs.FoundIn.{there_files}
use Rattle.library_files.specs.FoundFile.{AreFilesOf}
use Rattle.library_files.proofs.links.unread_files.Goals as goal

pub returns-clause-files : goal.returns-clause-files
returns-clause-files c = subst (AreFilesOf c.args.tree.now) (sym c.in_ok-files.ensures) (there_files c.args.tree.now c.in_ok-paths.paths)
