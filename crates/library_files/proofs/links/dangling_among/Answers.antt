use Rattle.std.proofs.Common.{◌∙◌}
use Rattle.library_files.proofs.Folders.{all_dangling}
use Rattle.library_files.proofs.links.dangling_among.Goals as goal

pub returns : goal.returns
returns c t places e = c.in_ok-paths.ensures ∙ all_dangling t places c.args.links.now c.each_once.result.now e c.each_once.ensures
