use Rattle.std.proofs.Common.{◌∙◌}
use Rattle.file_table.specs.Table.{analysis_at}
use Rattle.library_files.proofs.Unread.{unread_links}
use Rattle.library_files.proofs.links.unread_after.Goals as goal

pub returns : goal.returns
returns c t places e =
    c.in_ok-paths.ensures ∙ unread_links (analysis_at c.args.table.now) t places c.args.links.now c.each_once.result.now e c.each_once.ensures
